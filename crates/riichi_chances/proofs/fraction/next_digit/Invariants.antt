use Rattle.std.proofs.Common.{◌≡◌, ◌+◌, ◌*◌, ◌<◌, ◌≤◌}
use Rattle.riichi_chances.proofs.fraction.next_digit.Given as goal

abbrev pub invariant-loop : goal.invariant-loop
invariant-loop l = (l.counter * l.rest ≡ l.digit * l.whole + l.left) × (l.left < l.whole) × (l.digit ≤ l.counter)
