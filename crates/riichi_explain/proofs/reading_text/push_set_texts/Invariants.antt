use Rattle.std.proofs.Common.{◌≡◌, ◌≤◌, ◌+◌, ◌*◌, ◌++◌, take}
use Rattle.std.specs.List.{flat_map}
use Rattle.arrayvec.specs.ArrayString.{array_string_len}
use Rattle.riichi_explain.specs.declared.reading_text.TheConstants.{MOST_SET}
use Rattle.riichi_explain.specs.Text.{set_text}
use Rattle.riichi_explain.proofs.reading_text.push_set_texts.Given as goal

abbrev pub invariant-loop-set : goal.invariant-loop-set
invariant-loop-set l =
    (l.text.bytes ≡ l.initial.text.bytes ++ flat_map set_text (take l.set-index l.set-items))
    × (array_string_len l.text ≤ array_string_len l.initial.text + MOST_SET * l.set-index)
