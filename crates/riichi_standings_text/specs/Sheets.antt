-- Standings in columns.
use Rattle.std.specs.Prelude.{ℕ, ◌+◌, ◌-◌, ◌/◌, ◌%◌, ◌==◌, ◌||◌, List, [], ◌++◌, Bool, not, chars, codes, decimal, false, filter, flat_map, fold, max, ℤ, Option, None, Some, if◌then◌else◌}
use Rattle.unicode_width.specs.Width.{str_width}
use Rattle.riichi_standings.specs.Laws.{name_at}
use Rattle.riichi_standings.specs.Tallies.{is_of}
use Rattle.riichi_standings.specs.Tournaments.{Games}
use Rattle.riichi_standings.specs.declared.result.SeatResult.{SeatResult}
use Rattle.riichi_standings.specs.declared.standing.Standing.{Standing}
use Rattle.riichi_standings_text.specs.Cells.{blanks, name_cell, number_cell}
use Rattle.riichi_standings_text.specs.Columns.{columns_of, column_numbers, points_at}
use Rattle.riichi_standings_text.specs.Texts.{points_in_thousands}
use Rattle.riichi_standings_text.specs.declared.columns.Columns.{Columns}

-- the columns of the widest name, or of the word above the names
abbrev pub widest_name : List (List ℕ) → ℕ
widest_name names = fold (λ most name. max most (str_width false (chars name))) 4 names

-- how many sessions have room in a line of 80 columns, of which place, name, total and games take some: one at least
abbrev pub sessions_in_a_line : ℕ → ℕ
sessions_in_a_line name = max ((80 - (24 + name)) / 8) 1

-- a session goes on in the line where it is the first of all, or not the first of a further line
abbrev pub stays_in_line : ℕ → ℕ → Bool
stays_in_line name before = (before == 0) || not (before % sessions_in_a_line name == 0)

abbrev pub break_text : ℕ → Bool → List ℕ
break_text name stays_in_line = if stays_in_line then [] else codes "\n" ++ blanks 24 ++ blanks name

abbrev pub break_before : ℕ → Columns → ℕ → List ℕ
break_before name columns column = break_text name (stays_in_line name (column - columns.first))

-- ---- the names of the columns

abbrev pub front_heads : ℕ → List ℕ
front_heads name = codes "place" ++ blanks 2 ++ name_cell name (codes "name") ++ number_cell 10 (codes "total") ++ number_cell 7 (codes "games")

abbrev pub column_head : ℕ → Columns → ℕ → List ℕ
column_head name columns column = break_before name columns column ++ number_cell 8 (decimal column)

abbrev pub heads_text : ℕ → Columns → List ℕ
heads_text name columns = front_heads name ++ flat_map (column_head name columns) (column_numbers columns) ++ codes "\n"

-- ---- the rows of a player

abbrev pub front_cells : ℕ → List ℕ → Standing → List ℕ
front_cells name own standing =
    number_cell 5 (decimal standing.place) ++ blanks 2 ++ name_cell name own
    ++ number_cell 10 (points_in_thousands standing.tally.total) ++ number_cell 7 (decimal standing.tally.games)

abbrev pub session_cell : Option ℤ → List ℕ
session_cell None = number_cell 8 (codes "-")
session_cell (Some points) = number_cell 8 (points_in_thousands points)

abbrev pub column_cell : ℕ → Columns → List SeatResult → ℕ → List ℕ
column_cell name columns own column = break_before name columns column ++ session_cell (points_at columns column own)

abbrev pub session_cells : ℕ → Columns → List SeatResult → List ℕ
session_cells name columns own = flat_map (column_cell name columns own) (column_numbers columns) ++ codes "\n"

unfoldable pub standing_rows : ℕ → Columns → Games → Standing → List ℕ
standing_rows name columns games standing =
    front_cells name (name_at games.names standing.player) standing
    ++ session_cells name columns (filter (is_of standing.player) games.results)

-- the names of the columns, and the rows of each player, in the order of the list
abbrev pub standings_sheet : Games → List Standing → List ℕ
standings_sheet games list =
    let name = widest_name games.names in
    let columns = columns_of games.results list in
    heads_text name columns ++ flat_map (standing_rows name columns games) list
