use Rattle.std.proofs.Common.{◌≡◌, take}
use Rattle.std.specs.List.{list_any}
use Rattle.riichi_hand.specs.Lines.{is_other_byte}
use Rattle.riichi_hand.proofs.line.bytes.has_other_byte.Given as goal

-- among the bytes so far
abbrev pub invariant-loop-byte : goal.invariant-loop-byte
invariant-loop-byte l = l.found ≡ list_any is_other_byte (take l.byte-index l.line)
