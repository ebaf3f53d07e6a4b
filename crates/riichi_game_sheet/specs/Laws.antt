-- What is always so of a sheet.
use Rattle.std.specs.Prelude.{◌≡◌, ℕ, List, true}
use Rattle.std.specs.Str.{is_utf8}
use Rattle.riichi_table.specs.declared.player.Player.{Player}
use Rattle.riichi_game_sheet.specs.Cells.{width_of}
use Rattle.riichi_game_sheet.specs.Rows.{sheet_row_of}

-- whatever texts stand in the cells of a row, it takes 80 columns
abbrev pub RowsTakeEightyColumns : Type 0
RowsTakeEightyColumns = (label told : List ℕ) (cell : Player → List ℕ) → is_utf8 label ≡ true → is_utf8 told ≡ true
    → ((player : Player) → is_utf8 (cell player) ≡ true) → width_of (sheet_row_of label told cell) ≡ 80
