-- Tiles that are just those of some sets and a pair have no others past the last kind either.
use Rattle.std.proofs.Common.{◌≡◌, ℕ, ◌<◌, ◌≤◌, List, [], ◌∷◌, length, get_or, inl, inr, refl, sym, arith}
use Rattle.std.specs.List.{AllByRecursion}
use Rattle.std.proofs.lemmas.Bool.{cases_lt}
use Rattle.std.proofs.lemmas.Bool.Decides.{nat_tests}
use Rattle.std.proofs.lemmas.List.{get_or_past}
use Rattle.std.proofs.lemmas.List.Elements.{All-from_recursion, recursion_from_All}
use Rattle.riichi_tiles.specs.Blocks.{copies, total, IsSet}
use Rattle.riichi_tiles.specs.Forms.{AreMadeOf}
use Rattle.riichi_tiles.specs.declared.block.Block.{Block}
use Rattle.riichi_tiles.specs.declared.block.Block.TheVariants.{Run, Triplet, Pair}

total-past : (sets : List Block) (k : ℕ) → AllByRecursion IsSet sets → 34 ≤ k → total sets k ≡ 0
total-past [] k s l = refl
total-past (Run a ∷ sets) k s l = let i = total-past sets k s.1 l in grind (arith, nat_tests)
total-past (Triplet a ∷ sets) k s l = let i = total-past sets k s.1 l in grind (arith, nat_tests)
total-past (Pair a ∷ sets) k s l = absurd s.0

pair-past : (p k : ℕ) → p < 34 → 34 ≤ k → copies (Pair p) k ≡ 0
pair-past p k l h = grind (arith, nat_tests)

module _ (c : List ℕ) (sets : List Block) (p : ℕ) where
  pub each-set : AreMadeOf c sets p → AllByRecursion IsSet sets
  each-set made = recursion_from_All IsSet sets made.are_sets

  pub adds-everywhere : length c ≡ 34 → AreMadeOf c sets p → (k : ℕ) → total (Pair p ∷ sets) k ≡ get_or c k 0
  adds-everywhere long made k = elim (cases_lt k 34) [
    | inl low ↦ sym (made.adds_up k low)
    | inr past ↦ omega (arith, total-past sets k (each-set made) past, pair-past p k made.is_kind past, get_or_past c k 0 (omega (arith, long, past)))
  ]

  pub made-of : AllByRecursion IsSet sets → p < 34 → ((k : ℕ) → k < 34 → total (Pair p ∷ sets) k ≡ get_or c k 0) → AreMadeOf c sets p
  made-of each kind adds = record { are_sets = All-from_recursion IsSet sets each; is_kind = kind; adds_up = λ k low. sym (adds k low) }
