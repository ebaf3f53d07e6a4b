use Rattle.std.proofs.Common.{◌≡◌, ◌+◌, ◌*◌, ◌≤◌, ◌++◌, take}
use Rattle.std.specs.List.{flat_map}
use Rattle.arrayvec.specs.ArrayString.{array_string_len}
use Rattle.riichi_tiles.specs.Melds.{every_kind}
use Rattle.riichi_study.specs.SafeTexts.{kind_within}
use Rattle.riichi_study.proofs.safe_text.push_each_kind.Given as goal

-- the kinds so far are written
abbrev pub invariant-loop-number : goal.invariant-loop-number
invariant-loop-number l = record {
  bytes : l.text.bytes ≡ l.initial.text.bytes ++ flat_map (kind_within l.set) (take l.number every_kind);
  few : array_string_len l.text ≤ array_string_len l.initial.text + l.number * 3;
}
