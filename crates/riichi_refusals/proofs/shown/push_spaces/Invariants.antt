use Rattle.std.proofs.Common.{◌≡◌, ◌+◌, ◌++◌, replicate}
use Rattle.arrayvec.specs.ArrayString.{array_string_len}
use Rattle.riichi_refusals.proofs.shown.push_spaces.Given as goal

abbrev pub invariant-loop-turn : goal.invariant-loop-turn
invariant-loop-turn l =
    (l.out.bytes ≡ l.initial.out.bytes ++ replicate l.turn 32)
    × (array_string_len l.out ≡ array_string_len l.initial.out + l.turn)
