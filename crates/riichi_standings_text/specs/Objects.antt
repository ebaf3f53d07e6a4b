-- Standings as JSON.
use Rattle.std.specs.Prelude.{ℕ, ◌==◌, List, [], ◌++◌, Bool, true, false, codes, decimal, ℤ, Option, None, Some, filter, flat_map, nat_lt, chars, encode_utf8, if◌then◌else◌}
use Rattle.std.specs.Fmt.{signed_decimal}
use Rattle.riichi_standings.specs.Laws.{name_at}
use Rattle.riichi_standings.specs.Tallies.{is_of}
use Rattle.riichi_standings.specs.Tournaments.{Games}
use Rattle.riichi_standings.specs.declared.result.SeatResult.{SeatResult}
use Rattle.riichi_standings.specs.declared.standing.Standing.{Standing}
use Rattle.riichi_standings_text.specs.Columns.{columns_of, column_numbers, points_at}
use Rattle.riichi_standings_text.specs.declared.columns.Columns.{Columns}

-- a backslash stands before a quotation mark, and before a backslash
abbrev pub json_character : ℕ → List ℕ
json_character character = if (character == 34) then codes "\\\"" else if (character == 92) then codes "\\\\" else encode_utf8 character

-- a name in a string of JSON; it has no control bytes, which alone would have to be escaped besides
abbrev pub json_name : List ℕ → List ℕ
json_name name = flat_map json_character (chars name)

-- `{"place":1,"name":"Fay"`
abbrev pub place_and_name : List ℕ → Standing → List ℕ
place_and_name name standing = codes "{\"place\":" ++ decimal standing.place ++ codes ",\"name\":\"" ++ json_name name

-- `,"total":27200,"games":2`
abbrev pub total_members : Standing → List ℕ
total_members standing = codes "\",\"total\":" ++ signed_decimal standing.tally.total ++ codes ",\"games\":" ++ decimal standing.tally.games

-- `,"firsts":1,"best":26300`
abbrev pub best_members : Standing → List ℕ
best_members standing = codes ",\"firsts\":" ++ decimal standing.tally.firsts ++ codes ",\"best\":" ++ signed_decimal standing.tally.best

-- a comma, but before the first
abbrev pub comma_before : Bool → List ℕ
comma_before true = codes ","
comma_before false = []

-- points, or null for no game
abbrev pub points_or_null : Option ℤ → List ℕ
points_or_null None = codes "null"
points_or_null (Some points) = signed_decimal points

abbrev pub column_value : Columns → List SeatResult → ℕ → List ℕ
column_value columns own column = comma_before (nat_lt columns.first column) ++ points_or_null (points_at columns column own)

-- `,"sessions":[26300,null]}`, and the end of the line
abbrev pub sessions_member : Columns → List SeatResult → List ℕ
sessions_member columns own = codes ",\"sessions\":[" ++ flat_map (column_value columns own) (column_numbers columns) ++ codes "]}\n"

abbrev pub front_members : List ℕ → Standing → List ℕ
front_members name standing = place_and_name name standing ++ total_members standing ++ best_members standing

-- the object of a player, on a line
unfoldable pub standing_object : Columns → Games → Standing → List ℕ
standing_object columns games standing =
    front_members (name_at games.names standing.player) standing ++ sessions_member columns (filter (is_of standing.player) games.results)

-- an object a player, in the order of the list
abbrev pub standings_json : Games → List Standing → List ℕ
standings_json games list = flat_map (standing_object (columns_of games.results list) games) list
