use Rattle.std.proofs.Common.{◌≡◌, ◌≤◌, ◌+◌, ◌*◌, ◌++◌, take}
use Rattle.arrayvec.specs.ArrayString.{array_string_len}
use Rattle.riichi_refusals.specs.declared.shown.TheConstants.{MOST_BYTE}
use Rattle.riichi_refusals.specs.Shown.{shown}
use Rattle.riichi_refusals.proofs.shown.push_shown.Given as goal

abbrev pub invariant-loop-byte : goal.invariant-loop-byte
invariant-loop-byte l =
    (l.out.bytes ≡ l.initial.out.bytes ++ shown (take l.byte-index l.text))
    × (array_string_len l.out ≤ array_string_len l.initial.out + MOST_BYTE * l.byte-index)
