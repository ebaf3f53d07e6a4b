use Rattle.std.proofs.Common.{◌≡◌, ◌≤◌, ◌+◌, ◌*◌, ◌++◌, take}
use Rattle.std.specs.List.{flat_map}
use Rattle.arrayvec.specs.ArrayString.{array_string_len}
use Rattle.riichi_explain.specs.declared.reading_text.TheConstants.{MOST_SPACED}
use Rattle.riichi_explain.specs.Text.{spaced_meld}
use Rattle.riichi_explain.proofs.reading_text.push_spaced_melds.Given as goal

abbrev pub invariant-loop-place : goal.invariant-loop-place
invariant-loop-place l =
    (l.text.bytes ≡ l.initial.text.bytes ++ flat_map spaced_meld (take l.place l.melds))
    × (array_string_len l.text ≤ array_string_len l.initial.text + MOST_SPACED * l.place)
