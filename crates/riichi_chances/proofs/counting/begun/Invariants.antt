use Rattle.std.proofs.Common.{◌≡◌, ◌+◌, drop}
use Rattle.riichi_chances.specs.Graph.{draws_value, placed_number}
use Rattle.riichi_chances.proofs.counting.begun.Given as goal

-- the sum so far, and that of the draws that are left
abbrev pub invariant-loop-draw : goal.invariant-loop-draw
invariant-loop-draw l = record {
  so_far : l.sum + draws_value (placed_number l.column l.earlier l.left) l.least (drop l.draw-index l.draws) ≡ draws_value (placed_number l.column l.earlier l.left) l.least l.draws;
}
