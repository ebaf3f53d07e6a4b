use Rattle.std.proofs.Common.{ℕ}
use Rattle.std.specs.Int.{IsGcd}
use Rattle.riichi_chances.proofs.divisor.common_divisor.Given as goal

-- what divides these two divides the first two, and is the greatest there too
abbrev pub invariant-loop-lesser : goal.invariant-loop-lesser
invariant-loop-lesser l = (divisor : ℕ) → IsGcd l.greater l.lesser divisor → IsGcd l.fn.one l.fn.other divisor

abbrev pub decreases-loop-lesser : goal.decreases-loop-lesser
decreases-loop-lesser l = l.lesser
