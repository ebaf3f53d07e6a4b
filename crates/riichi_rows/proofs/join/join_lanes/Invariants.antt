use Rattle.riichi_rows.specs.Lanes.{lane}
use Rattle.riichi_rows.proofs.Joins.{LeastSoFar, IsMoved}
use Rattle.riichi_rows.proofs.join.join_lanes.Given as goal

abbrev pub invariant-loop-sets : goal.invariant-loop-sets
invariant-loop-sets l = record {
  least : LeastSoFar (lane l.fn.left.lacks) (lane l.fn.right.lacks) (lane l.best.lacks) l.sets;
  moved : IsMoved (lane l.fn.right.lacks) (lane l.moved.lacks) l.sets;
}
