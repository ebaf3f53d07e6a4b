-- Who sits at a table, and who meets there.
use Rattle.std.specs.Prelude.{ℕ, ◌==◌, Bool, ◌||◌, ◌&&◌}
use Rattle.riichi_seats.specs.declared.table.Seat.{Seat}
use Rattle.riichi_seats.specs.declared.table.Seat.TheVariants.{East, South, West, North}
use Rattle.riichi_seats.specs.declared.table.Table.{Table}

-- the player of a seat
abbrev pub player_at : Table → Seat → ℕ
player_at table East = table.east
player_at table South = table.south
player_at table West = table.west
player_at table North = table.north

-- a player sits at a table
abbrev pub sits : ℕ → Table → Bool
sits player table = table.east == player || table.south == player || table.west == player || table.north == player

-- two players meet where both sit
abbrev pub meet : ℕ → ℕ → Table → Bool
meet one other table = sits one table && sits other table
