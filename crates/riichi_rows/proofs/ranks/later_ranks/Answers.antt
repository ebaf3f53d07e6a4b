use Rattle.std.proofs.Common.{◌-◌, arith}
use Rattle.riichi_rows.specs.Ranks.{OpenLeast}
use Rattle.riichi_rows.proofs.MarkedRanks.{next_open}
use Rattle.riichi_rows.proofs.ranks.later_ranks.Goals as goal

pub loop-rank-preserved : goal.loop-rank-preserved
loop-rank-preserved c = record {
  some = omega arith;
  ranks = next_open c.args.runs c.args.counts.now c.args.caps.now (omega arith) (omega arith) c.requires.caps (c.loop-rank.rank - 1) (omega arith) (omega arith) _ c.bit_of.ensures c.loop-rank.later (OpenLeast c.args.runs c.before-later.result)
      c.before-later.ensures.others c.before-later.ensures.own c.loop-rank.rank (omega arith) c.loop-rank.invariant.ranks;
}

pub returns : goal.returns
returns c = next_open c.args.runs c.args.counts.now c.args.caps.now (omega arith) (omega arith) c.requires.caps 1 (omega arith) (omega arith) _ c.bit_of-2.ensures c.loop-rank.later (OpenLeast c.args.runs c.before-2.result)
    c.before-2.ensures.others c.before-2.ensures.own c.loop-rank.rank (omega arith) c.loop-rank.invariant.ranks
