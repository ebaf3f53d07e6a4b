use Rattle.std.proofs.Common.{◌-◌}
use Rattle.riichi_tiles.proofs.LastGroups.{AddsDigitsBefore}
use Rattle.riichi_tiles.proofs.notation.reading.group_before.Given as goal

abbrev pub invariant-loop-start : goal.invariant-loop-start
invariant-loop-start l = AddsDigitsBefore l.initial.counts l.counts l.fn.text l.start (l.end - 1)

abbrev pub decreases-loop-start : goal.decreases-loop-start
decreases-loop-start l = l.start
