-- The places of four players by their points.
use Rattle.std.specs.Prelude.{ℕ, ◌+◌, Bool, not, ◌&&◌, ◌||◌, ◌==◌, nat_lt, int_lt, ℤ}
use Rattle.std.specs.Ordering.{int_eq}
use Rattle.riichi_table.specs.Players.{of_player, count_players}
use Rattle.riichi_table.specs.declared.player.Player.{Player}
use Rattle.riichi_table.specs.declared.player.Player.TheVariants.{First, Second, Third, Fourth}
use Rattle.riichi_table.specs.declared.player.ByPlayer.{ByPlayer}
use Rattle.riichi_table.specs.declared.rules.Ties.{Ties}
use Rattle.riichi_table.specs.declared.rules.Ties.TheVariants.{Share, Seat}

-- the first seats in their order
abbrev pub seat_number : Player → ℕ
seat_number First = 0
seat_number Second = 1
seat_number Third = 2
seat_number Fourth = 3

-- one has the earlier first seat
abbrev pub is_before : Player → Player → Bool
is_before one other = nat_lt (seat_number one) (seat_number other)

abbrev pub has_more : ByPlayer ℤ → Player → Player → Bool
has_more points one other = int_lt (of_player points other) (of_player points one)

abbrev pub has_as_many : ByPlayer ℤ → Player → Player → Bool
has_as_many points one other = int_eq (of_player points one) (of_player points other)

-- one is ahead who has more points, and of equal points, where these are not shared, who has the earlier first seat
abbrev pub is_ahead : Ties → ByPlayer ℤ → Player → Player → Bool
is_ahead Share points one other = has_more points one other
is_ahead Seat points one other = has_more points one other || (has_as_many points one other && is_before one other)

-- neither is ahead of the other; each player is level with himself
abbrev pub is_level : Ties → ByPlayer ℤ → Player → Player → Bool
is_level ties points one other = not (is_ahead ties points one other) && not (is_ahead ties points other one)

-- how many are ahead of a player
unfoldable pub ahead_of : Ties → ByPlayer ℤ → Player → ℕ
ahead_of ties points player = count_players (λ other. is_ahead ties points other player)

-- one more than are ahead: so equal points have the same place where they share, as in 1 2 2 4
abbrev pub place_by_points : Ties → ByPlayer ℤ → Player → ℕ
place_by_points ties points player = 1 + ahead_of ties points player

-- how many have the player's place
unfoldable pub sharers_of : Ties → ByPlayer ℤ → Player → ℕ
sharers_of ties points player = count_players (λ other. is_level ties points other player)

-- how many of these have an earlier first seat than the player
unfoldable pub earlier_of : Ties → ByPlayer ℤ → Player → ℕ
earlier_of ties points player = count_players (λ other. is_level ties points other player && is_before other player)

-- nobody has more points, and nobody with as many an earlier first seat
abbrev pub is_first : ByPlayer ℤ → Player → Bool
is_first points player = place_by_points Seat points player == 1
