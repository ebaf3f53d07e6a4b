use Rattle.std.proofs.Common.{◌≡◌, length}
use Rattle.riichi_worth.specs.Rows.{ArePlaced}
use Rattle.riichi_worth.proofs.counting.put_points.Given as goal

-- the rows so far are those of the first hands
abbrev pub invariant-loop-place : goal.invariant-loop-place
invariant-loop-place g l = record {
  each : length l.rows ≡ length l.initial.rows;
  stays : l.source ≡ l.initial.source;
  are : ArePlaced l.stakes l.span l.asked l.graph.hands l.place l.rows;
}
