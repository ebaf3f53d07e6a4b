-- Standings in words.
use Rattle.std.specs.Prelude.{ℕ, ◌/◌, ◌%◌, List, [], ◌++◌, codes, decimal, ℤ, pos, Option, None, Some, filter, flat_map, unsigned_abs, int_lt, if◌then◌else◌}
use Rattle.riichi_standings.specs.Laws.{name_at}
use Rattle.riichi_standings.specs.Tallies.{is_of}
use Rattle.riichi_standings.specs.Tournaments.{Games}
use Rattle.riichi_standings.specs.declared.result.SeatResult.{SeatResult}
use Rattle.riichi_standings.specs.declared.standing.Standing.{Standing}
use Rattle.riichi_standings_text.specs.Columns.{columns_of, column_numbers, points_at}
use Rattle.riichi_standings_text.specs.declared.columns.Columns.{Columns}

abbrev pub sign_text : ℤ → List ℕ
sign_text points = if int_lt points (pos 0) then codes "-" else if int_lt (pos 0) points then codes "+" else []

-- `+26.3`, `-5.3` or `0.0`
unfoldable pub points_in_thousands : ℤ → List ℕ
points_in_thousands points =
    sign_text points ++ decimal (unsigned_abs points / 1000) ++ codes "." ++ decimal (unsigned_abs points % 1000 / 100)

-- `place 1 Fay`
abbrev pub standing_place_text : List ℕ → Standing → List ℕ
standing_place_text name standing = codes "place " ++ decimal standing.place ++ codes " " ++ name

-- ` total +27.2 games 2`
abbrev pub standing_total_text : Standing → List ℕ
standing_total_text standing = codes " total " ++ points_in_thousands standing.tally.total ++ codes " games " ++ decimal standing.tally.games

-- `+26.3`, or a dash for no game
abbrev pub session_points : Option ℤ → List ℕ
session_points None = codes "-"
session_points (Some points) = points_in_thousands points

-- the final points of a column, behind a space
abbrev pub column_text : Columns → List SeatResult → ℕ → List ℕ
column_text columns own column = codes " " ++ session_points (points_at columns column own)

-- ` sessions +26.3 -`, and the end of the line
abbrev pub sessions_text : Columns → List SeatResult → List ℕ
sessions_text columns own = codes " sessions" ++ flat_map (column_text columns own) (column_numbers columns) ++ codes "\n"

-- the line of a player
unfoldable pub standing_line : Columns → Games → Standing → List ℕ
standing_line columns games standing =
    standing_place_text (name_at games.names standing.player) standing ++ standing_total_text standing
    ++ sessions_text columns (filter (is_of standing.player) games.results)

-- a line a player, in the order of the list
abbrev pub standings_text : Games → List Standing → List ℕ
standings_text games list = flat_map (standing_line (columns_of games.results list) games) list
