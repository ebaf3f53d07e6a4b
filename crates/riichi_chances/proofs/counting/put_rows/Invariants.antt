use Rattle.std.proofs.Common.{◌≡◌, length}
use Rattle.riichi_hand.specs.HandParts.{ShapeParts}
use Rattle.riichi_chances.specs.Graph.{AreRows, IsGraph}
use Rattle.riichi_chances.proofs.counting.put_rows.Given as goal

-- the rows so far are those of the first hands
abbrev pub invariant-loop-place : goal.invariant-loop-place
invariant-loop-place l = record {
  each : length l.rows ≡ length l.initial.rows;
  are : (root : ShapeParts) → IsGraph root l.graph → AreRows l.span root l.graph.hands l.place l.rows;
}
