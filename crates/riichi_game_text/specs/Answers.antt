-- The texts of the answers to a game.
use Rattle.std.specs.Prelude.{ℕ, List, [], ◌++◌, codes, decimal, ℤ, pos, ◌-ℤ◌, int_lt, if◌then◌else◌}
use Rattle.std.specs.Fmt.{signed_decimal}
use Rattle.riichi_hand.specs.declared.win.Wind.{Wind}
use Rattle.riichi_hand.specs.declared.win.Wind.TheVariants.{East, South, West, North}
use Rattle.riichi_table.specs.Players.{of_player, by_players}
use Rattle.riichi_table.specs.declared.player.Player.{Player}
use Rattle.riichi_table.specs.declared.player.Player.TheVariants.{First, Second, Third, Fourth}
use Rattle.riichi_table.specs.declared.player.ByPlayer.{ByPlayer}
use Rattle.riichi_table.specs.declared.state.GameState.{GameState}

-- the texts of the four, in the order of their numbers
abbrev pub of_four : (Player → List ℕ) → List ℕ
of_four text = text First ++ text Second ++ text Third ++ text Fourth

-- ---- the line of a game

-- `game Anna Bo Cyd Dee start 30000`
abbrev pub begun_text : ByPlayer (List ℕ) → ℕ → List ℕ
begun_text names start = codes "game" ++ of_four (λ player. codes " " ++ of_player names player) ++ codes " start " ++ decimal start

-- ---- the line of a deal

abbrev pub round_text : Wind → List ℕ
round_text East = codes "east"
round_text South = codes "south"
round_text West = codes "west"
round_text North = codes "north"

abbrev pub player_number : Player → ℕ
player_number First = 1
player_number Second = 2
player_number Third = 3
player_number Fourth = 4

-- `east 1 counters 0 sticks 0`
abbrev pub table_text : GameState → List ℕ
table_text state =
    round_text state.round ++ codes " " ++ decimal (player_number state.dealer)
    ++ codes " counters " ++ decimal state.counters ++ codes " sticks " ++ decimal state.sticks

-- `1000`, `-1000` or `0`
unfoldable pub signed_text : ℤ → List ℕ
signed_text number = signed_decimal number

-- the same with `+` before a gain
unfoldable pub points_change_text : ℤ → List ℕ
points_change_text change = (if int_lt (pos 0) change then codes "+" else []) ++ signed_decimal change

-- what the points of each change
abbrev pub point_changes : ByPlayer ℤ → ByPlayer ℤ → ByPlayer ℤ
point_changes before after = by_players (λ player. of_player after player -ℤ of_player before player)

abbrev pub changes_text : ByPlayer ℤ → ByPlayer ℤ → List ℕ
changes_text before after =
    codes " changes" ++ of_four (λ player. codes " " ++ points_change_text (of_player after player -ℤ of_player before player))

abbrev pub points_text : ByPlayer ℤ → List ℕ
points_text points = codes " points" ++ of_four (λ player. codes " " ++ signed_text (of_player points player))

-- the state before a deal, what each player's points change, and the points after it
abbrev pub deal_text : GameState → ByPlayer ℤ → List ℕ
deal_text before points = table_text before ++ changes_text before.points points ++ points_text points

-- `stands` and the state, as it can be typed
abbrev pub stands_text : GameState → List ℕ
stands_text state = codes "stands " ++ table_text state ++ points_text state.points

abbrev pub penalty_text : List ℕ → ℕ → List ℕ
penalty_text name points = codes "penalty " ++ name ++ codes " " ++ decimal points
