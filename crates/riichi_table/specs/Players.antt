-- The four players of a table, and what each has.
use Rattle.std.specs.Prelude.{ℕ, ◌+◌, Bool, true, false, ◌||◌, if◌then◌else◌, ℤ, ◌+ℤ◌}
use Rattle.riichi_hand.specs.declared.win.Wind.{Wind}
use Rattle.riichi_hand.specs.declared.win.Wind.TheVariants.{East, South, West, North}
use Rattle.riichi_table.specs.declared.player.Player.{Player}
use Rattle.riichi_table.specs.declared.player.Player.TheVariants.{First, Second, Third, Fourth}
use Rattle.riichi_table.specs.declared.player.ByPlayer.{ByPlayer}

abbrev pub of_player : {T : Type 0} → ByPlayer T → Player → T
of_player by First = by.first
of_player by Second = by.second
of_player by Third = by.third
of_player by Fourth = by.fourth

-- what a function says of each player
abbrev pub by_players : {T : Type 0} → (Player → T) → ByPlayer T
by_players f = record { first = f First; second = f Second; third = f Third; fourth = f Fourth }

abbrev pub same_for_all : {T : Type 0} → T → ByPlayer T
same_for_all value = by_players (λ player. value)

abbrev pub with_player : {T : Type 0} → ByPlayer T → Player → T → ByPlayer T
with_player by First value = record by { first = value }
with_player by Second value = record by { second = value }
with_player by Third value = record by { third = value }
with_player by Fourth value = record by { fourth = value }

-- the player whose turn comes next
abbrev pub after : Player → Player
after First = Second
after Second = Third
after Third = Fourth
after Fourth = First

abbrev pub is_same_player : Player → Player → Bool
is_same_player First First = true
is_same_player Second Second = true
is_same_player Third Third = true
is_same_player Fourth Fourth = true
is_same_player one other = false

-- the dealer sits East, and the winds go round in the order of turns
abbrev pub seat_of : Player → Player → Wind
seat_of player dealer =
    if is_same_player player dealer then East
    else if is_same_player player (after dealer) then South
    else if is_same_player player (after (after dealer)) then West
    else North

-- a number of each player, added up
abbrev pub over_players : (Player → ℕ) → ℕ
over_players f = f First + f Second + f Third + f Fourth

abbrev pub sum_over_players : (Player → ℤ) → ℤ
sum_over_players f = f First +ℤ f Second +ℤ f Third +ℤ f Fourth

abbrev pub one_where : Bool → ℕ
one_where holds = if holds then 1 else 0

-- how many of the players
abbrev pub count_players : (Player → Bool) → ℕ
count_players f = over_players (λ player. one_where (f player))

-- whether it holds of some player
abbrev pub of_some : (Player → Bool) → Bool
of_some f = f First || f Second || f Third || f Fourth
