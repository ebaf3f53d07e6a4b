-- How often players meet, and where they sit first.
use Rattle.std.specs.Prelude.{ℕ, ◌+◌, ◌-◌, ◌==◌, Bool, nat_le, List, [], ◌∷◌, map, if◌then◌else◌}
use Rattle.std.specs.List.{count_by, filter, flat_map, range_with_len}
use Rattle.riichi_seats.specs.Tables.{player_at, sits, meet}
use Rattle.riichi_seats.specs.declared.table.Seat.{Seat}
use Rattle.riichi_seats.specs.declared.table.Seat.TheVariants.{East, South, West, North}
use Rattle.riichi_seats.specs.declared.table.Table.{Table}
use Rattle.riichi_seats.specs.declared.counts.Repeated.{Repeated}
use Rattle.riichi_seats.specs.declared.counts.SeatCounts.{SeatCounts}

-- at how many tables two players meet
abbrev pub meetings : List Table → ℕ → ℕ → ℕ
meetings tables one other = count_by (meet one other) tables

-- the tables at which a player sits, and how many they are
abbrev pub tables_with : List Table → ℕ → List Table
tables_with tables player = filter (sits player) tables

abbrev pub count_with : List Table → ℕ → ℕ
count_with tables player = count_by (sits player) tables

-- two players, with the number of their meetings
abbrev pub pair_of : List Table → ℕ → ℕ → Repeated
pair_of tables one other = record { one = one; other = other; times = meetings tables one other }

-- they meet more than once
abbrev pub is_repeated : Repeated → Bool
is_repeated pair = nat_le 2 pair.times

abbrev pub if_repeated : Repeated → List Repeated
if_repeated pair = if is_repeated pair then pair ∷ [] else []

-- the numbers behind one, up to the last player
abbrev pub later_players : ℕ → ℕ → List ℕ
later_players players one = range_with_len (one + 1) (players - (one + 1))

-- the pairs of a player with a later one that meet more than once
unfoldable pub repeated_with : List Table → ℕ → ℕ → List Repeated
repeated_with tables players one = filter is_repeated (map (pair_of tables one) (later_players players one))

-- all pairs of players that meet more than once, each once
unfoldable pub repeated_pairs : List Table → ℕ → List Repeated
repeated_pairs tables players = flat_map (repeated_with tables players) (range_with_len 0 players)

-- how often a player sits at a seat
abbrev pub times_at : List Table → Seat → ℕ → ℕ
times_at tables seat player = count_by (λ table. player_at table seat == player) tables

abbrev pub seat_counts : List Table → ℕ → SeatCounts
seat_counts tables player = record {
  east = times_at tables East player;
  south = times_at tables South player;
  west = times_at tables West player;
  north = times_at tables North player;
}
