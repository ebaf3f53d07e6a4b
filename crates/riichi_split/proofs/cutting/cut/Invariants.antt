use Rattle.std.proofs.Common.{◌-◌}
use Rattle.riichi_split.proofs.Cuts.{IsPartWay}
use Rattle.riichi_split.proofs.cutting.cut.Given as goal

abbrev pub invariant-loop-index : goal.invariant-loop-index
invariant-loop-index l = IsPartWay l.counts l.fn.wanted l.fn.choices l.index l.sets l.one l.two l.left l.choices

abbrev pub decreases-loop-index : goal.decreases-loop-index
decreases-loop-index l = 34 - l.index
