use Rattle.std.proofs.Common.{◌≡◌, map, take}
use Rattle.riichi_game_hints.specs.Keeping as spec
use Rattle.riichi_game_hints.proofs.keeping.parted.Given as goal

abbrev pub invariant-loop-byte : goal.invariant-loop-byte
invariant-loop-byte l = l.parted.items ≡ map spec.space_for_mark (take l.byte-index l.line)
