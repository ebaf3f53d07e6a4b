-- Two lists of sets are the same where all four places of both are, and their lengths.
use Rattle.std.specs.Prelude.{◌≡◌, List, length, take}
use Rattle.std.proofs.Common.{◌∙◌, ap, refl, sym}
use Rattle.std.specs.Bool.{Decides}
use Rattle.std.proofs.Math.Seq.{take-append_seam}
use Rattle.std.proofs.lemmas.Bool.Decides.{Decides-and, Decides-eqb, Decides-like}
use Rattle.std.proofs.lemmas.Slice.Eq.{slice_eq-Decides}
use Rattle.riichi_tiles.specs.declared.block.Block.{Block}
use Rattle.riichi_tiles.specs.contracts.decided.BlockDecided.TheImpl.Laws.{decides-law as block}
use Rattle.riichi_split.specs.Sets.{in_four_places}
use Rattle.riichi_split.specs.contracts.sets.SetsPartialEq.TheImpl.{ghosts as sets}

same_placed : (a b : List Block) → in_four_places a ≡ in_four_places b → length a ≡ length b → a ≡ b
same_placed a b places lengths =
    sym (take-append_seam a _) ∙ ap (take (length a)) places ∙ ap (λ n. take n (in_four_places b)) lengths ∙ take-append_seam b _

pub sets_decide : (a b : List Block) → Decides (sets.eq a b) (a ≡ b)
sets_decide a b =
    Decides-like (sets.eq a b) (λ p. same_placed a b p.0 p.1) (λ e. (ap in_four_places e, ap length e))
    (Decides-and _ _ (slice_eq-Decides block (in_four_places a) (in_four_places b) _ refl) (Decides-eqb (length a) (length b)))
