use Rattle.std.proofs.Common.{◌≡◌, take}
use Rattle.riichi_hints.specs.Near as spec
use Rattle.riichi_hints.proofs.names.name_of.Given as goal

abbrev pub invariant-loop-byte : goal.invariant-loop-byte
invariant-loop-byte l = l.name.items ≡ spec.plain_name (take l.byte-index l.word)
