-- The list of every set has each set, and nothing else; and of no kind do the orphans have more than two.
use Rattle.std.proofs.Common.{◌≡◌, ℕ, ◌≤◌, Bool, true, false, cond, [], ◌∷◌, inl, inr, refl, subst, arith}
use Rattle.std.proofs.lemmas.Bool.Decides.{nat_tests}
use Rattle.riichi_tiles.specs.Blocks.{IsSet}
use Rattle.riichi_tiles.specs.Forms.{orphan_copies}
use Rattle.riichi_tiles.specs.Kinds.{begins_run}
use Rattle.riichi_tiles.specs.Melds.{every_kind}
use Rattle.riichi_tiles.specs.Sets.{every_set, sets_at}
use Rattle.riichi_tiles.specs.declared.block.Block.{Block}
use Rattle.riichi_tiles.specs.declared.block.Block.TheVariants.{Run, Triplet, Pair}
use Rattle.riichi_tiles.proofs.Members.{IsIn, in-flat_map, in-flat_map-inv, in-range, in-range-inv}
use Rattle.riichi_tiles.proofs.Suits.{begins_at, run_low}

pub in-every_set : (set : Block) → IsSet set → IsIn set every_set
unfolding every_set
in-every_set (Run low) is = in-flat_map sets_at low (Run low) every_kind (in-range 34 0 low (omega arith) (omega (arith, is.0))) (rw (begins_at low is) (inr (inl refl)))
in-every_set (Triplet kind) is = in-flat_map sets_at kind (Triplet kind) every_kind (in-range 34 0 kind (omega arith) (omega (arith, is))) (inl refl)
in-every_set (Pair kind) is = absurd is

pub every_set-inv : (set : Block) → IsIn set every_set → IsSet set
unfolding every_set
every_set-inv set h =
    let at = in-flat_map-inv sets_at set every_kind h in
    elim at.2 [
      | inl triplet ↦ subst (λ (v : Block). IsSet v) triplet (in-range-inv 34 0 at.0 at.1).1
      | inr rest ↦ run (begins_run at.0) at.0 refl rest
    ]
  where
    run : (test : Bool) (kind : ℕ) → begins_run kind ≡ test → IsIn set (cond test (Run kind ∷ []) []) → IsSet set
    run true kind begins (inl is) = subst (λ (v : Block). IsSet v) is (run_low kind begins)
    run true kind begins (inr none) = absurd none
    run false kind begins none = absurd none

pub few-orphans : (doubled kind : ℕ) → orphan_copies doubled kind ≤ 2
few-orphans doubled kind = grind (arith, nat_tests)
