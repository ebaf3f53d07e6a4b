use Rattle.std.proofs.Common.{◌≡◌, ◌<◌, ℕ, List, sym, subst, arith}
use Rattle.riichi_rows.specs.Lanes.{lane, opposite}
use Rattle.riichi_rows.proofs.Opposite.{opposite_lanes}
use Rattle.riichi_rows.proofs.lanes.Lanes.opposite.Goals as goal
use Rattle.riichi_rows.proofs.lanes.Lanes.opposite.Goals.{in-0, in-1, in-2, in-3, in_default}

pub returns : goal.returns
returns c =
    let lanes = c.args.self.lacks in
    let long = c.args.self.sixteen in
    let Opposed : ℕ → List ℕ → Type 0 = λ n xs. ((s p : ℕ) → s < 8 → p < 2 → lane xs s p ≡ opposite n (lane lanes) s p) in
    let at : (n : ℕ) → c.args.sets ≡ n → Opposed n c.match-sets.lacks → Opposed c.args.sets c.match-sets.lacks = λ n e. subst (λ (k : ℕ). Opposed k c.match-sets.lacks) (sym e) in
    elim c.match-sets.branch [
      | in-0 w ↦ at 0 (omega arith) (subst (Opposed 0) (sym w.lacks-is) (opposite_lanes lanes long 0 (omega arith)))
      | in-1 w ↦ at 1 (omega arith) (subst (Opposed 1) (sym w.lacks-is) (opposite_lanes lanes long 1 (omega arith)))
      | in-2 w ↦ at 2 (omega arith) (subst (Opposed 2) (sym w.lacks-is) (opposite_lanes lanes long 2 (omega arith)))
      | in-3 w ↦ at 3 (omega arith) (subst (Opposed 3) (sym w.lacks-is) (opposite_lanes lanes long 3 (omega arith)))
      | in_default w ↦ at 4 (omega arith) (subst (Opposed 4) (sym w.lacks-is) (opposite_lanes lanes long 4 (omega arith)))
    ]
