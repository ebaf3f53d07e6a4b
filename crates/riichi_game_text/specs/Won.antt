-- What a player wins, by names, rules and the state.
use Rattle.std.specs.Prelude.{ℕ, List, [], ◌∷◌, codes, Bool, false, not, ◌&&◌, ◌||◌, nat_le, Option, None, Some, is_some, Result, Ok, Err, if◌then◌else◌}
use Rattle.std.specs.Str.{bytes_eq}
use Rattle.riichi_hand.specs.declared.win.By.{By}
use Rattle.riichi_hand.specs.declared.win.By.TheVariants as by
use Rattle.riichi_table.specs.Players.{of_player, with_player, is_same_player, seat_of}
use Rattle.riichi_table.specs.Worths.{limits_of_worth}
use Rattle.riichi_table.specs.declared.player.Player.{Player}
use Rattle.riichi_table.specs.declared.player.ByPlayer.{ByPlayer}
use Rattle.riichi_table.specs.declared.rules.TableRules.{TableRules}
use Rattle.riichi_table.specs.declared.state.GameState.{GameState}
use Rattle.riichi_table.specs.declared.outcome.Win.{Win}
use Rattle.riichi_table.specs.declared.outcome.Outcome.{Outcome}
use Rattle.riichi_table.specs.declared.outcome.Outcome.TheVariants.{Tsumo}
use Rattle.riichi_game_text.specs.Names.{player_named}
use Rattle.riichi_game_text.specs.Listed.{players_if_said}
use Rattle.riichi_game_text.specs.Forms.{riichi_at_end}
use Rattle.riichi_game_text.specs.TableWords.{first_value}
use Rattle.riichi_game_text.specs.Written.{value_worth}
use Rattle.riichi_game_text.specs.Wins.{SaidLiable, SaidWin, win_at}
use Rattle.riichi_game_text.specs.declared.fault.GameFault.{GameFault}
use Rattle.riichi_game_text.specs.declared.fault.GameFault.TheVariants.{G4, G5, G6}
use Rattle.riichi_game_text.specs.declared.hand_line.Known.{Known}
use Rattle.riichi_game_text.specs.declared.value.WrittenValue.{WrittenValue}
use Rattle.riichi_game_text.specs.declared.value.WrittenValue.TheVariants.{Hand}
use Rattle.riichi_game_text.specs.declared.value.ValueWorth.{ValueWorth}

-- ---- what a hand says of a bet

abbrev pub riichi_said : WrittenValue → List (List ℕ) → Option (List ℕ)
riichi_said Hand words = first_value (codes "riichi") words
riichi_said other words = None

abbrev pub says_bet : Option (List ℕ) → Bool
says_bet None = false
says_bet (Some value) = bytes_eq value (codes "1") || bytes_eq value (codes "2")

abbrev pub denies_bet : Option (List ℕ) → Bool
denies_bet None = false
denies_bet (Some value) = bytes_eq value (codes "0")

-- ---- what is won

-- what the game knows of the hand; a bet is told where the hand doesn't name it
abbrev pub known_of : GameState → By → Player → Bool → SaidWin → Known
known_of state by winner bets win = record {
  by = by;
  seat = seat_of winner state.dealer;
  round = state.round;
  bets = bets && not (is_some (riichi_said win.value win.words));
}

-- the limits that are said, or those that the value names
abbrev pub limits_or : Option ℕ → Option ℕ → Option ℕ
limits_or None own = own
limits_or (Some said) own = Some said

abbrev pub said_limits : Option SaidLiable → Option ℕ
said_limits None = None
said_limits (Some liable) = liable.limits

abbrev pub liable_win : Player → ValueWorth → Option ℕ → Result Win GameFault
liable_win player value None = Err G6
liable_win player value (Some limits) =
    if nat_le 1 limits && nat_le limits (limits_of_worth value.worth)
    then Ok (record { worth = value.worth; liable = Some (record { player = player; limits = limits }) })
    else Err G6

abbrev pub win_with : Option Player → Option ℕ → ValueWorth → Result Win GameFault
win_with None said value = Ok (record { worth = value.worth; liable = None })
win_with (Some player) said value = liable_win player value (limits_or said value.limits)

abbrev pub win_by : Option Player → Option ℕ → Result ValueWorth GameFault → Result Win GameFault
win_by liable said (Err fault) = Err fault
win_by liable said (Ok value) = win_with liable said value

unfoldable pub win_said : TableRules → GameState → By → Player → Option Player → Bool → SaidWin → Result Win GameFault
win_said rules state by winner liable bets win =
    win_by liable (said_limits win.liable) (value_worth rules.hand (known_of state by winner bets win) win.value win.hand win.words)

-- ---- a win by self-draw: `WINNER VALUE [liable NAME] [riichi NAMES]`

abbrev pub with_riichi : SaidWin → Option (Option (List ℕ)) → Option (SaidWin × Option (List ℕ))
with_riichi win None = None
with_riichi win (Some riichi) = Some (win, riichi)

abbrev pub riichi_behind : Option (SaidWin × List (List ℕ)) → Option (SaidWin × Option (List ℕ))
riichi_behind None = None
riichi_behind (Some at) = with_riichi at.0 (riichi_at_end at.1)

unfoldable pub tsumo_form : List (List ℕ) → Option (SaidWin × Option (List ℕ))
tsumo_form [] = None
tsumo_form (name ∷ words) = riichi_behind (win_at name words)

abbrev pub liable_found : Option Player → Option (Option Player)
liable_found None = None
liable_found (Some player) = Some (Some player)

abbrev pub liable_named : ByPlayer (List ℕ) → Option SaidLiable → Option (Option Player)
liable_named names None = Some None
liable_named names (Some liable) = liable_found (player_named names liable.name)

abbrev pub is_liable_winner : Option Player → Player → Bool
is_liable_winner None winner = false
is_liable_winner (Some liable) winner = is_same_player liable winner

-- the winner is liable, or bets by a hand without riichi
abbrev pub is_wrong : Player → Option Player → ByPlayer Bool → SaidWin → Bool
is_wrong winner liable riichi win =
    is_liable_winner liable winner || (of_player riichi winner && denies_bet (riichi_said win.value win.words))

-- who bets by the list, and by the winner's hand
abbrev pub bets_with : ByPlayer Bool → Player → SaidWin → ByPlayer Bool
bets_with riichi winner win =
    with_player riichi winner (of_player riichi winner || says_bet (riichi_said win.value win.words))

abbrev pub tsumo_won : Player → ByPlayer Bool → Result Win GameFault → Result Outcome GameFault
tsumo_won winner riichi (Err fault) = Err fault
tsumo_won winner riichi (Ok win) = Ok (Tsumo winner win riichi)

abbrev pub tsumo_by : TableRules → GameState → SaidWin → Option Player → Option (Option Player) → Option (ByPlayer Bool) → Result Outcome GameFault
tsumo_by rules state win (Some winner) (Some liable) (Some riichi) =
    if is_wrong winner liable riichi win then Err G5
    else tsumo_won winner (bets_with riichi winner win) (win_said rules state by.Tsumo winner liable (of_player riichi winner) win)
tsumo_by rules state win winner liable riichi = Err G5

abbrev pub tsumo_said : ByPlayer (List ℕ) → TableRules → GameState → Option (SaidWin × Option (List ℕ)) → Result Outcome GameFault
tsumo_said names rules state None = Err G4
tsumo_said names rules state (Some form) =
    tsumo_by rules state form.0 (player_named names form.0.name) (liable_named names form.0.liable) (players_if_said names form.1)

-- the outcome of the words behind `tsumo`, or the first fault of words, names, value and hand
unfoldable pub tsumo_of : ByPlayer (List ℕ) → TableRules → GameState → List (List ℕ) → Result Outcome GameFault
tsumo_of names rules state words = tsumo_said names rules state (tsumo_form words)
