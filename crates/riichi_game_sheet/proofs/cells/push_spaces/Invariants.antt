use Rattle.std.proofs.Common.{◌≡◌, ◌+◌, ◌++◌}
use Rattle.arrayvec.specs.ArrayString.{array_string_len}
use Rattle.riichi_game_sheet.specs.Cells.{spaces}
use Rattle.riichi_game_sheet.proofs.cells.push_spaces.Given as goal

-- the spaces so far are written
abbrev pub invariant-loop-place : goal.invariant-loop-place
invariant-loop-place l =
    (l.text.bytes ≡ l.initial.text.bytes ++ spaces l._place) × (array_string_len l.text ≡ array_string_len l.initial.text + l._place)
