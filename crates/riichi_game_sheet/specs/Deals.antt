-- The rows of outcomes, and of the states between them.
use Rattle.std.specs.Prelude.{ℕ, ◌==◌, List, [], ◌++◌, codes, decimal, Bool, ℤ, pos, if◌then◌else◌}
use Rattle.riichi_hand.specs.declared.win.Wind.{Wind}
use Rattle.riichi_hand.specs.declared.win.Wind.TheVariants.{East, South, West, North}
use Rattle.riichi_table.specs.Players.{of_player, of_some, same_for_all, with_player}
use Rattle.riichi_table.specs.declared.player.Player.{Player}
use Rattle.riichi_table.specs.declared.player.Player.TheVariants.{First, Second, Third, Fourth}
use Rattle.riichi_table.specs.declared.player.ByPlayer.{ByPlayer}
use Rattle.riichi_table.specs.declared.rules.TableRules.{TableRules}
use Rattle.riichi_table.specs.declared.state.GameState.{GameState}
use Rattle.riichi_table.specs.declared.outcome.Outcome.{Outcome}
use Rattle.riichi_table.specs.declared.outcome.Outcome.TheVariants.{Ron, Tsumo, Draw, Abort, Chombo, Penalty, Stands, End}
use Rattle.riichi_settle.specs.Winners.{as_played, wins_of}
use Rattle.riichi_game_text.specs.Answers.{of_four, point_changes}
use Rattle.riichi_game_sheet.specs.Rows.{sheet_row}
use Rattle.riichi_game_sheet.specs.declared.rows.Written.TheVariants.{Points, Changes}

-- ---- the label of a deal

abbrev pub round_letter : Wind → List ℕ
round_letter East = codes "E"
round_letter South = codes "S"
round_letter West = codes "W"
round_letter North = codes "N"

abbrev pub player_digit : Player → List ℕ
player_digit First = codes "1"
player_digit Second = codes "2"
player_digit Third = codes "3"
player_digit Fourth = codes "4"

-- how many there are behind a mark, where there are any
abbrev pub count_if_any : List ℕ → ℕ → List ℕ
count_if_any mark count = if count == 0 then [] else mark ++ decimal count

-- `E2`, with one counter `E2-1`, and with a stick too `E2-1+1`
unfoldable pub deal_label : GameState → List ℕ
deal_label state =
    round_letter state.round ++ player_digit state.dealer ++ count_if_any (codes "-") state.counters ++ count_if_any (codes "+") state.sticks

-- ---- who did what

abbrev pub name_where : Bool → List ℕ → List ℕ
name_where holds name = if holds then codes " " ++ name else []

-- a word, and behind it the names of those of whom something holds; nothing where it holds of nobody
abbrev pub names_listed : List ℕ → ByPlayer (List ℕ) → (Player → Bool) → List ℕ
names_listed word names holds =
    if of_some holds then word ++ of_four (λ player. name_where (holds player) (of_player names player)) else []

-- how a deal ended, and who did it
unfoldable pub outcome_shown : ByPlayer (List ℕ) → Outcome → List ℕ
outcome_shown names (Ron from wins riichi) = names_listed (codes "ron") names (wins_of wins)
outcome_shown names (Tsumo winner win riichi) = codes "tsumo " ++ of_player names winner
outcome_shown names (Draw ready nagashi riichi) = codes "draw" ++ names_listed (codes " nagashi") names (of_player nagashi)
outcome_shown names (Abort riichi) = codes "abort"
outcome_shown names (Chombo player) = codes "chombo " ++ of_player names player
outcome_shown names (Stands state) = codes "stands"
outcome_shown names other = []

-- whose discard was won on, or who was ready
unfoldable pub beside_told : ByPlayer (List ℕ) → Outcome → List ℕ
beside_told names (Ron from wins riichi) = codes "from " ++ of_player names from
beside_told names (Draw ready nagashi riichi) = names_listed (codes "ready") names (of_player ready)
beside_told names other = []

-- ---- rows

-- what a deal changes, and below that the points
abbrev pub deal_rows : ByPlayer (List ℕ) → GameState → ByPlayer ℤ → Outcome → List ℕ
deal_rows names before after played =
    sheet_row (deal_label before) (outcome_shown names played) Changes (point_changes before.points after) ++ codes "\n"
    ++ sheet_row [] (beside_told names played) Points after

-- a penalty in the column of the player
abbrev pub penalty_row : Player → ℕ → List ℕ
penalty_row player points = sheet_row [] (codes "penalty") Points (with_player (same_for_all (pos 0)) player (pos points))

-- An outcome by the state before it and the points after it. A deal is told as it is played under the rules; an `end` by what follows.
abbrev pub outcome_rows : ByPlayer (List ℕ) → TableRules → GameState → ByPlayer ℤ → Outcome → List ℕ
outcome_rows names rules before after (Penalty player points) = penalty_row player points
outcome_rows names rules before after End = []
outcome_rows names rules before after other = deal_rows names before after (as_played rules other)

-- the state of a game that isn't over, or that a line took it back to
unfoldable pub stands_row : GameState → List ℕ
stands_row state = sheet_row (deal_label state) (codes "stands") Points state.points
