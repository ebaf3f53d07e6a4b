-- The first rows of a sheet.
use Rattle.std.specs.Prelude.{ℕ, List, [], ◌++◌, codes, decimal, Option, None, Some, pos}
use Rattle.riichi_table.specs.Players.{same_for_all}
use Rattle.riichi_game_text.specs.GameLines.{GameSaid}
use Rattle.riichi_game_sheet.specs.Rows.{names_row, sheet_row}
use Rattle.riichi_game_sheet.specs.declared.rows.Written.TheVariants.{Points}

-- a number behind a word, where it is said
abbrev pub said_text : List ℕ → Option ℕ → List ℕ
said_text word None = []
said_text word (Some number) = word ++ decimal number

-- the names, and below them the points that each begins with; beside these session and table of a tournament
abbrev pub begun_rows : GameSaid → List ℕ
begun_rows said =
    names_row (codes "deal") (said_text (codes "session ") said.session) said.names ++ codes "\n"
    ++ sheet_row (codes "start") (said_text (codes "table ") said.at) Points (same_for_all (pos said.rules.start))
