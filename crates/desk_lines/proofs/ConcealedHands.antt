-- A hand without melds: thirteen tiles, and no other number.
use Rattle.std.proofs.Common.{◌≡◌, ◌≢◌, ℕ, ◌+◌, ◌≤◌, List, [], ◌∷◌, Bool, true, false, refl, ap, ◌∙◌, sum, slice_index, inl, inr, arith, Ok, Err, Result, nat_lt}
use Rattle.std.specs.Prelude.{◌==◌}
use Rattle.std.specs.List.{list_any}
use Rattle.std.proofs.lemmas.Bool.Decides.{eqb_tells, nat_tests}
use Rattle.riichi_tiles.specs.Tiles.{IsCounts}
use Rattle.riichi_tiles.specs.Melds.{every_kind}
use Rattle.riichi_tiles.specs.declared.meld.Meld.{Meld}
use Rattle.riichi_hand.specs.HandParts.{HandParts}
use Rattle.riichi_hand.specs.Hand.{size, has_five_copies, hand_of}
use Rattle.riichi_hand.specs.declared.fault.LineCode.TheVariants.{H8}
use Rattle.riichi_hand.specs.declared.fault.LineFault.{LineFault}
use Rattle.riichi_hand.specs.declared.fault.LineFault.TheVariants.{Line}
use Rattle.desk_lines.specs.WaitsLine.{concealed_hand}

none_any : (p : ℕ → Bool) → ((x : ℕ) → p x ≡ false) → (xs : List ℕ) → list_any p xs ≡ false
none_any p none [] = refl
none_any p none (x ∷ xs) = rw (none x) (none_any p none xs)

few : (n : ℕ) → n ≤ 4 → nat_lt 4 (n + 0) ≡ false
few n small = grind (arith, nat_tests)

no_five : (counts : List ℕ) → IsCounts counts → has_five_copies counts [] ≡ false
no_five counts are = none_any _ (λ kind. few (slice_index counts kind) (are.at_most_four kind)) every_kind

pub of_thirteen : (counts : List ℕ) → IsCounts counts → sum counts ≡ 13 → hand_of (concealed_hand counts) ≡ Ok (concealed_hand counts)
unfolding hand_of
of_thirteen counts are thirteen =
    let is_size : (size counts [] == 13) ≡ true = elim (eqb_tells (size counts []) 13) [
      | inl so ↦ so.0
      | inr not_so ↦ absurd (not_so.1 (omega (arith, thirteen)))
    ] in
    rw is_size (rw (no_five counts are) refl)

pub of_another : (counts : List ℕ) → sum counts ≢ 13 → hand_of (concealed_hand counts) ≡ Err (Line H8)
unfolding hand_of
of_another counts other =
    let no_size : (size counts [] == 13) ≡ false = elim (eqb_tells (size counts []) 13) [
      | inl so ↦ absurd (other (let e = so.1 in omega arith))
      | inr not_so ↦ not_so.0
    ] in
    rw no_size refl

-- what the constructor of a record answers to the tiles and no melds
pub answered : {answer told : Result HandParts LineFault} (counts : List ℕ) (melds : List Meld) → melds ≡ [] → answer ≡ hand_of (record { concealed = counts; melds = melds })
    → hand_of (concealed_hand counts) ≡ told → answer ≡ told
answered counts melds none is told_is = is ∙ ap (λ m. hand_of (record { concealed = counts; melds = m })) none ∙ told_is

pub ruleset answer_counts_facts = (of_thirteen, of_another, answered)
