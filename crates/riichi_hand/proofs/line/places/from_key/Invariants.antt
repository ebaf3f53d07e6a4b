use Rattle.std.proofs.Common.{◌≡◌, length, false}
use Rattle.riichi_hand.specs.Words.{begins_with_space}
use Rattle.riichi_hand.specs.Places.{from_key}
use Rattle.riichi_hand.proofs.line.places.from_key.Given as goal

-- no word so far was taken
abbrev pub invariant-loop-from : goal.invariant-loop-from
invariant-loop-from l = (from_key l.key l.least l.line ≡ from_key l.key l.least l.from) × (begins_with_space l.from ≡ false)

abbrev pub decreases-loop-from : goal.decreases-loop-from
decreases-loop-from l = length l.from
