use Rattle.std.proofs.Common.{length}
use Rattle.desk_core.proofs.Passing.{HasPassed}
use Rattle.desk_core.proofs.lane.Lane.pass_withdrawn.Given as goal

abbrev pub invariant-loop-self : goal.invariant-loop-self
invariant-loop-self l = HasPassed l.fn.self l.self

abbrev pub decreases-loop-self : goal.decreases-loop-self
decreases-loop-self l = length l.self.window
