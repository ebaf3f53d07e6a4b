-- Rows of a sheet: a label, what is told, and a cell for each of the four.
use Rattle.std.specs.Prelude.{ℕ, List, ◌++◌, ℤ}
use Rattle.riichi_table.specs.Players.{of_player}
use Rattle.riichi_table.specs.declared.player.Player.{Player}
use Rattle.riichi_table.specs.declared.player.ByPlayer.{ByPlayer}
use Rattle.riichi_game_text.specs.Answers.{of_four, signed_text, points_change_text}
use Rattle.riichi_game_text.specs.FinalTexts.{thousands_text}
use Rattle.riichi_game_sheet.specs.Cells.{left_cell, right_cell}
use Rattle.riichi_game_sheet.specs.declared.rows.TheConstants.{LABEL, TOLD, COLUMN}
use Rattle.riichi_game_sheet.specs.declared.rows.Written.{Written}
use Rattle.riichi_game_sheet.specs.declared.rows.Written.TheVariants.{Points, Changes, Thousands}

-- the label, and what is told
abbrev pub row_front : List ℕ → List ℕ → List ℕ
row_front label told = left_cell LABEL label ++ left_cell TOLD told

-- the same with a cell for each of the four
abbrev pub sheet_row_of : List ℕ → List ℕ → (Player → List ℕ) → List ℕ
sheet_row_of label told cell = row_front label told ++ of_four (λ player. right_cell COLUMN (cell player))

-- the names above their columns
unfoldable pub names_row : List ℕ → List ℕ → ByPlayer (List ℕ) → List ℕ
names_row label told names = sheet_row_of label told (of_player names)

-- points; what points change, with a sign before a gain; or points as thousands with one decimal
unfoldable pub written_digits : Written → ℤ → List ℕ
written_digits Points number = signed_text number
written_digits Changes number = points_change_text number
written_digits Thousands number = thousands_text number

-- a number for each of the four
unfoldable pub sheet_row : List ℕ → List ℕ → Written → ByPlayer ℤ → List ℕ
sheet_row label told written numbers = sheet_row_of label told (λ player. written_digits written (of_player numbers player))
