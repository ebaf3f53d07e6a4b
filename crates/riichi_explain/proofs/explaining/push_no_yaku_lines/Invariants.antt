use Rattle.std.proofs.Common.{◌≡◌, ◌≤◌, ◌+◌, ◌*◌, ◌++◌, take}
use Rattle.std.specs.List.{flat_map}
use Rattle.arrayvec.specs.ArrayString.{array_string_len}
use Rattle.riichi_explain.specs.declared.reading_text.TheConstants.{MOST_READING_LINE}
use Rattle.riichi_explain.specs.Text.{no_yaku_line}
use Rattle.riichi_explain.proofs.explaining.push_no_yaku_lines.Given as goal

abbrev pub invariant-loop-one : goal.invariant-loop-one
invariant-loop-one l =
    (l.text.bytes ≡ l.initial.text.bytes ++ flat_map (λ one. no_yaku_line one.reading l.win) (take l.one-index l.ranked))
    × (array_string_len l.text ≤ array_string_len l.initial.text + MOST_READING_LINE * l.one-index)
