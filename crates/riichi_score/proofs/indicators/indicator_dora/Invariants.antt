use Rattle.std.proofs.Common.{◌-◌}
use Rattle.riichi_score.proofs.DoraSums.{IsShown}
use Rattle.riichi_score.proofs.indicators.indicator_dora.Given as goal

abbrev pub invariant-loop-left : goal.invariant-loop-left
invariant-loop-left l = IsShown l.win l.number l.sum l.left

abbrev pub decreases-loop-left : goal.decreases-loop-left
decreases-loop-left l = 34 - l.number
