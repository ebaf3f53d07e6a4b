-- What the values of a line are made of, where they are more than the name of a limit hand.
use Rattle.std.specs.Prelude.{ℕ, List, [], ◌∷◌, codes, Bool, Option, None, Some, Result, Ok, Err, if◌then◌else◌}
use Rattle.std.specs.Str.{bytes_eq}
use Rattle.riichi_hand.specs.declared.fault.LineFault.{LineFault}
use Rattle.riichi_hand.specs.declared.win.By.{By}
use Rattle.riichi_hand.specs.declared.win.By.TheVariants as by
use Rattle.riichi_hand.specs.declared.win.WinParts.{WinParts}
use Rattle.riichi_table.specs.Players.{of_player, with_player, same_for_all}
use Rattle.riichi_table.specs.declared.player.Player.{Player}
use Rattle.riichi_table.specs.declared.player.ByPlayer.{ByPlayer}
use Rattle.riichi_table.specs.declared.rules.TableRules.{TableRules}
use Rattle.riichi_table.specs.declared.state.GameState.{GameState}
use Rattle.riichi_game_text.specs.Names.{player_named}
use Rattle.riichi_game_text.specs.HandLines.{hand_said}
use Rattle.riichi_game_text.specs.Listed.{players_if_said}
use Rattle.riichi_game_text.specs.Rons.{RonForm, ron_form}
use Rattle.riichi_game_text.specs.Wins.{SaidWin}
use Rattle.riichi_game_text.specs.Won.{known_of, tsumo_form}
use Rattle.riichi_game_text.specs.declared.value.WrittenValue.{WrittenValue}
use Rattle.riichi_game_text.specs.declared.value.WrittenValue.TheVariants as written
use Rattle.riichi_game_text.specs.declared.won_value.WonValue.{WonValue}
use Rattle.riichi_game_text.specs.declared.won_value.WonValue.TheVariants.{Counted, Hand}

-- ---- one value

abbrev pub hand_value : Result WinParts LineFault → Option WonValue
hand_value (Err fault) = None
hand_value (Ok hand) = Some (Hand hand)

-- han and fu as they are written, or the hand with what the game knows; a limit hand says nothing more than its name
abbrev pub won_value_of : TableRules → GameState → By → Player → Bool → SaidWin → WrittenValue → Option WonValue
won_value_of rules state by winner bets win (written.Counted han fu) = Some (Counted han fu)
won_value_of rules state by winner bets win (written.Limit hand) = None
won_value_of rules state by winner bets win written.Hand = hand_value (hand_said rules.hand (known_of state by winner bets win) win.hand win.words)

-- ---- the values of a line, by player

abbrev pub value_found : TableRules → GameState → By → ByPlayer Bool → SaidWin → Option Player → ByPlayer (Option WonValue) → ByPlayer (Option WonValue)
value_found rules state by riichi win None values = values
value_found rules state by riichi win (Some winner) values =
    with_player values winner (won_value_of rules state by winner (of_player riichi winner) win win.value)

-- the value of the player who is named
abbrev pub with_value : ByPlayer (List ℕ) → TableRules → GameState → By → ByPlayer Bool → Option SaidWin → ByPlayer (Option WonValue) → ByPlayer (Option WonValue)
with_value names rules state by riichi None values = values
with_value names rules state by riichi (Some win) values = value_found rules state by riichi win (player_named names win.name) values

abbrev pub no_values : ByPlayer (Option WonValue)
no_values = same_for_all None

abbrev pub ron_values_by : ByPlayer (List ℕ) → TableRules → GameState → RonForm → Option (ByPlayer Bool) → ByPlayer (Option WonValue)
ron_values_by names rules state form None = no_values
ron_values_by names rules state form (Some riichi) =
    with_value names rules state by.Ron riichi form.third
    (with_value names rules state by.Ron riichi form.second (with_value names rules state by.Ron riichi (Some form.first) no_values))

abbrev pub ron_values : ByPlayer (List ℕ) → TableRules → GameState → Option RonForm → ByPlayer (Option WonValue)
ron_values names rules state None = no_values
ron_values names rules state (Some form) = ron_values_by names rules state form (players_if_said names form.riichi)

abbrev pub tsumo_values_by : ByPlayer (List ℕ) → TableRules → GameState → SaidWin → Option (ByPlayer Bool) → ByPlayer (Option WonValue)
tsumo_values_by names rules state win None = no_values
tsumo_values_by names rules state win (Some riichi) = with_value names rules state by.Tsumo riichi (Some win) no_values

abbrev pub tsumo_values : ByPlayer (List ℕ) → TableRules → GameState → Option (SaidWin × Option (List ℕ)) → ByPlayer (Option WonValue)
tsumo_values names rules state None = no_values
tsumo_values names rules state (Some form) = tsumo_values_by names rules state form.0 (players_if_said names form.1)

abbrev pub values_by : ByPlayer (List ℕ) → TableRules → GameState → List ℕ → List (List ℕ) → ByPlayer (Option WonValue)
values_by names rules state first words =
    if bytes_eq first (codes "ron") then ron_values names rules state (ron_form words)
    else if bytes_eq first (codes "tsumo") then tsumo_values names rules state (tsumo_form words)
    else no_values

-- what the values are made of that the words of a line say, under these rules and in this state
unfoldable pub won_values : ByPlayer (List ℕ) → TableRules → GameState → List (List ℕ) → ByPlayer (Option WonValue)
won_values names rules state [] = no_values
won_values names rules state (first ∷ words) = values_by names rules state first words
