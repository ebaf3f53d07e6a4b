-- A win on a discard, or several.
use Rattle.std.specs.Prelude.{ℕ, List, [], ◌∷◌, codes, Bool, true, false, not, ◌&&◌, ◌||◌, Option, None, Some, option_map, Result, Ok, Err, if◌then◌else◌}
use Rattle.std.specs.Str.{bytes_eq}
use Rattle.riichi_hand.specs.declared.win.By.TheVariants as by
use Rattle.riichi_table.specs.Players.{of_player, with_player, same_for_all}
use Rattle.riichi_table.specs.declared.player.Player.{Player}
use Rattle.riichi_table.specs.declared.player.ByPlayer.{ByPlayer}
use Rattle.riichi_table.specs.declared.rules.TableRules.{TableRules}
use Rattle.riichi_table.specs.declared.state.GameState.{GameState}
use Rattle.riichi_table.specs.declared.outcome.Win.{Win}
use Rattle.riichi_table.specs.declared.outcome.Outcome.{Outcome}
use Rattle.riichi_table.specs.declared.outcome.Outcome.TheVariants.{Ron}
use Rattle.riichi_game_text.specs.Names.{player_named}
use Rattle.riichi_game_text.specs.Listed.{players_if_said}
use Rattle.riichi_game_text.specs.Forms.{riichi_at_end}
use Rattle.riichi_game_text.specs.TableWords.{first_value}
use Rattle.riichi_game_text.specs.Wins.{SaidWin, said_win, win_at}
use Rattle.riichi_game_text.specs.Won.{riichi_said, denies_bet, liable_named, bets_with, win_said}
use Rattle.riichi_game_text.specs.declared.fault.GameFault.{GameFault}
use Rattle.riichi_game_text.specs.declared.fault.GameFault.TheVariants.{G4, G5, G6}
use Rattle.riichi_game_text.specs.declared.value.WrittenValue.{WrittenValue}
use Rattle.riichi_game_text.specs.declared.value.WrittenValue.TheVariants.{Hand}
use Rattle.riichi_game_text.specs.declared.rons.NamedWin.{NamedWin}
use Rattle.riichi_game_text.specs.declared.ron_form.RonForm as read

-- ---- `WINNER from DISCARDER VALUE [liable NAME] [and WINNER VALUE [liable NAME]].. [riichi NAMES]`

abbrev pub some_win : Option (SaidWin × List (List ℕ)) → Option (Option SaidWin × List (List ℕ))
some_win None = None
some_win (Some at) = Some (Some at.0, at.1)

abbrev pub win_behind : List (List ℕ) → Option (Option SaidWin × List (List ℕ))
win_behind [] = None
win_behind (name ∷ words) = some_win (win_at name words)

-- `and` and one winner more, or nothing
unfoldable pub and_win : List (List ℕ) → Option (Option SaidWin × List (List ℕ))
and_win [] = Some (None, [])
and_win (word ∷ words) = if bytes_eq word (codes "and") then win_behind words else Some (None, word ∷ words)

-- Three others can win on a discard, so a fourth is a word too many.
pub record RonForm : Type 0 where
  pub from : List ℕ
  pub first : SaidWin
  pub second : Option SaidWin
  pub third : Option SaidWin
  pub riichi : Option (List ℕ)

-- the same as it was read
abbrev pub ron_read : read.RonForm → RonForm
ron_read form = record {
  from = form.from.now;
  first = said_win form.first;
  second = option_map said_win form.second;
  third = option_map said_win form.third;
  riichi = option_map (λ names. names.now) form.riichi;
}

abbrev pub ron_parts : List ℕ → SaidWin → Option SaidWin → Option SaidWin → Option (Option (List ℕ)) → Option RonForm
ron_parts from first second third None = None
ron_parts from first second third (Some riichi) = Some (record { from = from; first = first; second = second; third = third; riichi = riichi })

abbrev pub behind_third : List ℕ → SaidWin → Option SaidWin → Option (Option SaidWin × List (List ℕ)) → Option RonForm
behind_third from first second None = None
behind_third from first second (Some third) = ron_parts from first second third.0 (riichi_at_end third.1)

abbrev pub behind_second : List ℕ → SaidWin → Option (Option SaidWin × List (List ℕ)) → Option RonForm
behind_second from first None = None
behind_second from first (Some second) = behind_third from first second.0 (and_win second.1)

abbrev pub behind_first : List ℕ → Option (SaidWin × List (List ℕ)) → Option RonForm
behind_first from None = None
behind_first from (Some first) = behind_second from first.0 (and_win first.1)

abbrev pub ron_form : List (List ℕ) → Option RonForm
ron_form (name ∷ key ∷ from ∷ words) = if bytes_eq key (codes "from") then behind_first from (win_at name words) else None
ron_form others = None

-- ---- names

abbrev pub named_pair : Option Player → Option (Option Player) → Option NamedWin
named_pair (Some winner) (Some liable) = Some (record { winner = winner; liable = liable })
named_pair winner liable = None

abbrev pub named_win : ByPlayer (List ℕ) → SaidWin → Option NamedWin
named_win names win = named_pair (player_named names win.name) (liable_named names win.liable)

abbrev pub some_named : Option NamedWin → Option (Option NamedWin)
some_named None = None
some_named (Some named) = Some (Some named)

abbrev pub named_if_said : ByPlayer (List ℕ) → Option SaidWin → Option (Option NamedWin)
named_if_said names None = Some None
named_if_said names (Some win) = some_named (named_win names win)

-- the winners, where none stands twice
abbrev pub with_winner : Option NamedWin → Option (ByPlayer Bool) → Option (ByPlayer Bool)
with_winner named None = None
with_winner None (Some winners) = Some winners
with_winner (Some named) (Some winners) = if of_player winners named.winner then None else Some (with_player winners named.winner true)

abbrev pub winners_of : NamedWin → Option NamedWin → Option NamedWin → Option (ByPlayer Bool)
winners_of first second third = with_winner third (with_winner second (with_winner (Some first) (Some (same_for_all false))))

-- a winner is liable
abbrev pub liable_wins : ByPlayer Bool → Option Player → Bool
liable_wins winners None = false
liable_wins winners (Some player) = of_player winners player

abbrev pub liable_in : ByPlayer Bool → Option NamedWin → Bool
liable_in winners None = false
liable_in winners (Some named) = liable_wins winners named.liable

-- who is named behind `riichi` and has a hand that says otherwise
abbrev pub denies : ByPlayer Bool → Option NamedWin → Option SaidWin → Bool
denies riichi (Some named) (Some win) = of_player riichi named.winner && denies_bet (riichi_said win.value win.words)
denies riichi named win = false

abbrev pub are_wrong : RonForm → Player → ByPlayer Bool → ByPlayer Bool → NamedWin → Option NamedWin → Option NamedWin → Bool
are_wrong form from riichi winners first second third =
    of_player winners from || liable_in winners (Some first) || liable_in winners second || liable_in winners third
    || denies riichi (Some first) (Some form.first) || denies riichi second form.second || denies riichi third form.third

-- ---- values

-- the tile that a hand is won on
abbrev pub tile_of : WrittenValue → List (List ℕ) → Option (List ℕ)
tile_of Hand words = first_value (codes "on") words
tile_of other words = None

abbrev pub tile_if_said : Option SaidWin → Option (List ℕ)
tile_if_said None = None
tile_if_said (Some win) = tile_of win.value win.words

abbrev pub differ : Option (List ℕ) → Option (List ℕ) → Bool
differ (Some one) (Some other) = not (bytes_eq one other)
differ one other = false

abbrev pub tiles_differ : RonForm → Bool
tiles_differ form =
    let first = tile_if_said (Some form.first) in
    let second = tile_if_said form.second in
    let third = tile_if_said form.third in
    differ first second || differ first third || differ second third

abbrev pub won_if_said : TableRules → GameState → ByPlayer Bool → Option NamedWin → Option SaidWin → Option (Result Win GameFault)
won_if_said rules state riichi (Some named) (Some win) = Some (win_said rules state by.Ron named.winner named.liable (of_player riichi named.winner) win)
won_if_said rules state riichi named win = None

abbrev pub is_no_value : Option (Result Win GameFault) → Bool
is_no_value (Some (Err G6)) = true
is_no_value other = false

-- the win of a player among those of others, or the first fault
abbrev pub with_win : Option NamedWin → Option (Result Win GameFault) → Result (ByPlayer (Option Win)) GameFault → Result (ByPlayer (Option Win)) GameFault
with_win named won (Err fault) = Err fault
with_win (Some named) (Some (Ok win)) (Ok wins) = Ok (with_player wins named.winner (Some win))
with_win (Some named) (Some (Err fault)) (Ok wins) = Err fault
with_win named won (Ok wins) = Ok wins

-- a value that can't be comes before a hand at fault
abbrev pub wins_or_fault : NamedWin → Option NamedWin → Option NamedWin → Option (Result Win GameFault) → Option (Result Win GameFault) → Option (Result Win GameFault) → Result (ByPlayer (Option Win)) GameFault
wins_or_fault first second third one two three =
    if is_no_value one || is_no_value two || is_no_value three then Err G6
    else with_win third three (with_win second two (with_win (Some first) one (Ok (same_for_all None))))

-- ---- together

abbrev pub bets_if_said : Option NamedWin → Option SaidWin → ByPlayer Bool → ByPlayer Bool
bets_if_said (Some named) (Some win) riichi = bets_with riichi named.winner win
bets_if_said named win riichi = riichi

abbrev pub ron_won : Player → ByPlayer Bool → Result (ByPlayer (Option Win)) GameFault → Result Outcome GameFault
ron_won from riichi (Err fault) = Err fault
ron_won from riichi (Ok wins) = Ok (Ron from wins riichi)

-- who bets by the list, and by the winners' hands
abbrev pub all_bets : RonForm → ByPlayer Bool → NamedWin → Option NamedWin → Option NamedWin → ByPlayer Bool
all_bets form riichi first second third =
    bets_if_said third form.third (bets_if_said second form.second (bets_if_said (Some first) (Some form.first) riichi))

abbrev pub all_wins : TableRules → GameState → RonForm → ByPlayer Bool → NamedWin → Option NamedWin → Option NamedWin → Result (ByPlayer (Option Win)) GameFault
all_wins rules state form riichi first second third =
    wins_or_fault first second third (won_if_said rules state riichi (Some first) (Some form.first))
    (won_if_said rules state riichi second form.second) (won_if_said rules state riichi third form.third)

abbrev pub ron_valued : TableRules → GameState → RonForm → Player → ByPlayer Bool → NamedWin → Option NamedWin → Option NamedWin → Result Outcome GameFault
ron_valued rules state form from riichi first second third =
    if tiles_differ form then Err G6
    else ron_won from (all_bets form riichi first second third) (all_wins rules state form riichi first second third)

abbrev pub ron_unless : Bool → Result Outcome GameFault → Result Outcome GameFault
ron_unless wrong won = if wrong then Err G5 else won

abbrev pub ron_checked : TableRules → GameState → RonForm → Player → ByPlayer Bool → NamedWin → Option NamedWin → Option NamedWin → Option (ByPlayer Bool) → Result Outcome GameFault
ron_checked rules state form from riichi first second third None = Err G5
ron_checked rules state form from riichi first second third (Some winners) =
    ron_unless (are_wrong form from riichi winners first second third) (ron_valued rules state form from riichi first second third)

abbrev pub ron_by : TableRules → GameState → RonForm → Option Player → Option (ByPlayer Bool) → Option NamedWin → Option (Option NamedWin) → Option (Option NamedWin) → Result Outcome GameFault
ron_by rules state form (Some from) (Some riichi) (Some first) (Some second) (Some third) =
    ron_checked rules state form from riichi first second third (winners_of first second third)
ron_by rules state form from riichi first second third = Err G5

abbrev pub ron_said : ByPlayer (List ℕ) → TableRules → GameState → Option RonForm → Result Outcome GameFault
ron_said names rules state None = Err G4
ron_said names rules state (Some form) =
    ron_by rules state form (player_named names form.from) (players_if_said names form.riichi) (named_win names form.first)
    (named_if_said names form.second) (named_if_said names form.third)

-- the outcome of the words behind `ron`, or the first fault of words, names, values and hands
unfoldable pub ron_of : ByPlayer (List ℕ) → TableRules → GameState → List (List ℕ) → Result Outcome GameFault
ron_of names rules state words = ron_said names rules state (ron_form words)
