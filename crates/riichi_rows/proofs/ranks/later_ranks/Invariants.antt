use Rattle.std.proofs.Common.{◌≤◌}
use Rattle.riichi_rows.specs.Ranks.{AreRanks}
use Rattle.riichi_rows.proofs.ranks.later_ranks.Given as goal

abbrev pub invariant-loop-rank : goal.invariant-loop-rank
invariant-loop-rank l = record {
  some : 2 ≤ l.rank;
  ranks : AreRanks l.runs l.rank l.counts l.caps l.later;
}
