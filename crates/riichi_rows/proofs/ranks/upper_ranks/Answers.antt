use Rattle.std.proofs.Common.{◌≡◌, ℕ, ◌-◌, subst, arith}
use Rattle.riichi_rows.specs.Ranks.{AreRanks, OpenLeast}
use Rattle.riichi_rows.proofs.MarkedRanks.{next_open, nothing_left}
use Rattle.riichi_rows.proofs.ranks.upper_ranks.Goals as goal

pub loop-rank-init : goal.loop-rank-init
loop-rank-init c = record {
  some = omega arith;
  ranks = nothing_left c.args.counts.now c.args.caps.now (omega arith) (omega arith) (OpenLeast c.args.runs c.closed-later.result) (c.closed-later.ensures c.args.runs);
}

pub loop-rank-preserved : goal.loop-rank-preserved
loop-rank-preserved c = record {
  some = omega arith;
  ranks = next_open c.args.runs c.args.counts.now c.args.caps.now (omega arith) (omega arith) c.requires (c.loop-rank.rank - 1) (omega arith) (omega arith) _ c.bit_of.ensures c.loop-rank.later (OpenLeast c.args.runs c.before-later.result)
      c.before-later.ensures.others c.before-later.ensures.own c.loop-rank.rank (omega arith) c.loop-rank.invariant.ranks;
}

pub returns : goal.returns
returns c =
    let at_first : c.loop-rank.rank ≡ 4 = omega arith in
    subst (λ (n : ℕ). AreRanks c.args.runs n c.args.counts.now c.args.caps.now c.loop-rank.later) at_first c.loop-rank.invariant.ranks
