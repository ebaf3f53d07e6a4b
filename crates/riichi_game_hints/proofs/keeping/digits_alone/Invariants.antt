use Rattle.std.proofs.Common.{◌≡◌, map, take}
use Rattle.riichi_game_hints.specs.Keeping as spec
use Rattle.riichi_game_hints.proofs.keeping.digits_alone.Given as goal

abbrev pub invariant-loop-byte : goal.invariant-loop-byte
invariant-loop-byte l = l.digits.items ≡ map spec.digit_or_space (take l.byte-index l.line)
