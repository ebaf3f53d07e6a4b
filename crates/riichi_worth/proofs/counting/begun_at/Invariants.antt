use Rattle.std.proofs.Common.{◌≡◌, ◌+◌, drop}
use Rattle.riichi_chances.specs.Graph.{draws_value}
use Rattle.riichi_worth.specs.Rows.{placed_points}
use Rattle.riichi_worth.proofs.counting.begun_at.Given as goal

-- the sum so far, and that of the draws that are left
abbrev pub invariant-loop-draw : goal.invariant-loop-draw
invariant-loop-draw l = record {
  so_far : l.sum + draws_value (placed_points l.earlier l.left) 0 (drop l.draw-index l.draws) ≡ draws_value (placed_points l.earlier l.left) 0 l.draws;
}
