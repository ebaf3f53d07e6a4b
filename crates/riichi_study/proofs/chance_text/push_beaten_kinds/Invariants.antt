use Rattle.std.proofs.Common.{◌≡◌, ◌+◌, ◌*◌, ◌≤◌, ◌++◌, take}
use Rattle.std.specs.List.{flat_map}
use Rattle.arrayvec.specs.ArrayString.{array_string_len}
use Rattle.riichi_study.specs.ChanceTexts.{beaten_word}
use Rattle.riichi_study.proofs.chance_text.push_beaten_kinds.Given as goal

-- those so far are written
abbrev pub invariant-loop-other : goal.invariant-loop-other
invariant-loop-other l = record {
  bytes : l.text.bytes ≡ l.initial.text.bytes ++ flat_map (beaten_word l.odds) (take l.other-index l.others);
  few : array_string_len l.text ≤ array_string_len l.initial.text + 3 * l.other-index;
}
