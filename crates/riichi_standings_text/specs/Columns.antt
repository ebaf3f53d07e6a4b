-- The columns of sessions in standings.
use Rattle.std.specs.Prelude.{ℕ, ◌+◌, ◌-◌, List, true, false, ℤ, Option, fold, find, max, min, nat_lt, option_map, slice_get, if◌then◌else◌}
use Rattle.std.specs.List.{range_with_len}
use Rattle.riichi_standings.specs.Sessions.{first_session, last_session, is_in}
use Rattle.riichi_standings.specs.declared.result.SeatResult.{SeatResult}
use Rattle.riichi_standings.specs.declared.standing.Standing.{Standing}
use Rattle.riichi_standings_text.specs.declared.columns.Columns.{Columns}

-- how many games the player has played who has played most
abbrev pub most_games : List Standing → ℕ
most_games list = fold (λ most standing. max most standing.tally.games) 0 list

-- From the first session to the last; where no game says its session, the first game of each player, the second and so on.
abbrev pub columns_of : List SeatResult → List Standing → Columns
columns_of results list =
    if nat_lt 0 (last_session results)
    then record { first = first_session results; last = last_session results; is_said = true }
    else record { first = 1; last = min (most_games list) 4294967295; is_said = false }

-- the numbers of the columns
abbrev pub column_numbers : Columns → List ℕ
column_numbers columns = range_with_len columns.first (columns.last + 1 - columns.first)

-- the final points of a player in a column, by the player's own results
unfoldable pub points_at : Columns → ℕ → List SeatResult → Option ℤ
points_at columns column own =
    if columns.is_said
    then option_map (λ seat. seat.points) (find (is_in column) own)
    else option_map (λ seat. seat.points) (slice_get own (column - 1))
