-- What an outcome moves, and what that changes.
use Rattle.std.specs.Prelude.{ℕ, ◌+◌, ◌-◌, ◌*◌, Bool, if◌then◌else◌, ℤ, pos, ◌+ℤ◌, ◌-ℤ◌, List, [], ◌++◌}
use Rattle.std.specs.List.{sum_by}
use Rattle.riichi_table.specs.Players.{of_player, by_players, is_same_player, count_players}
use Rattle.riichi_table.specs.declared.player.Player.{Player}
use Rattle.riichi_table.specs.declared.player.ByPlayer.{ByPlayer}
use Rattle.riichi_table.specs.declared.rules.TableRules.{TableRules}
use Rattle.riichi_table.specs.declared.state.GameState.{GameState}
use Rattle.riichi_table.specs.declared.outcome.Outcome.{Outcome}
use Rattle.riichi_table.specs.declared.outcome.Outcome.TheVariants.{Ron, Tsumo, Draw, Abort, Chombo}
use Rattle.riichi_settle.specs.Moves.{taken, bets}
use Rattle.riichi_settle.specs.Winners.{as_played}
use Rattle.riichi_settle.specs.Wins.{ron_moves, sticks_won, tsumo_moves}
use Rattle.riichi_settle.specs.Draws.{draw_moves, chombo_moves}
use Rattle.riichi_settle.specs.declared.settling.Changes.{Changes}
use Rattle.riichi_settle.specs.declared.moved.Move.{Move}
use Rattle.riichi_settle.specs.declared.moved.Move.TheVariants.{Points, Bet, Sticks}
use Rattle.riichi_settle.specs.declared.moved.Taking.TheVariants.{Winner}

-- the sticks on the table, with those of the deal
abbrev pub sticks_lying : GameState → ByPlayer Bool → ℕ
sticks_lying state riichi = state.sticks + count_players (of_player riichi)

-- the bets go to the table first; then all is paid; then a winner takes the sticks
unfoldable pub moves_as_played : GameState → TableRules → Outcome → List Move
moves_as_played state rules (Ron from wins riichi) =
    bets riichi ++ ron_moves state rules.counters from wins ++ sticks_won rules.sticks (sticks_lying state riichi) from wins riichi
moves_as_played state rules (Tsumo winner win riichi) =
    bets riichi ++ tsumo_moves state winner win ++ taken winner (sticks_lying state riichi) Winner
moves_as_played state rules (Draw ready nagashi riichi) = bets riichi ++ draw_moves state.dealer ready nagashi
moves_as_played state rules (Abort riichi) = bets riichi
moves_as_played state rules (Chombo player) = chombo_moves rules.chombo state.dealer player
moves_as_played state rules other = []

-- what an outcome moves
unfoldable pub moves_of : GameState → TableRules → Outcome → List Move
moves_of state rules outcome = moves_as_played state rules (as_played rules outcome)

-- ---- what moves change, each by itself

abbrev pub amount_if : Bool → ℕ → ℕ
amount_if holds points = if holds then points else 0

abbrev pub got_by : Player → Move → ℕ
got_by player (Points from to points why) = amount_if (is_same_player to player) points
got_by player (Bet better) = 0
got_by player (Sticks to count why) = amount_if (is_same_player to player) (1000 * count)

abbrev pub given_by : Player → Move → ℕ
given_by player (Points from to points why) = amount_if (is_same_player from player) points
given_by player (Bet better) = amount_if (is_same_player better player) 1000
given_by player (Sticks to count why) = 0

abbrev pub sticks_bet : Move → ℕ
sticks_bet (Points from to points why) = 0
sticks_bet (Bet better) = 1
sticks_bet (Sticks to count why) = 0

abbrev pub sticks_taken : Move → ℕ
sticks_taken (Points from to points why) = 0
sticks_taken (Bet better) = 0
sticks_taken (Sticks to count why) = count

-- ---- what a list of moves changes

-- what a player is given less what this one gives
unfoldable pub change_by : List Move → Player → ℤ
change_by moves player = pos (sum_by (got_by player) moves) -ℤ pos (sum_by (given_by player) moves)

-- the points of each player afterwards
abbrev pub points_after_moves : ByPlayer ℤ → List Move → ByPlayer ℤ
points_after_moves points moves = by_players (λ player. of_player points player +ℤ change_by moves player)

-- the sticks that lay, and those that are bet, less those that are taken
unfoldable pub sticks_by : ℕ → List Move → ℕ
sticks_by sticks moves = (sticks + sum_by sticks_bet moves) - sum_by sticks_taken moves

abbrev pub changes_by : ℕ → List Move → Changes
changes_by sticks moves = record { points = by_players (change_by moves); sticks = sticks_by sticks moves }

-- what an outcome changes
abbrev pub changes_of : GameState → TableRules → Outcome → Changes
changes_of state rules outcome = changes_by state.sticks (moves_of state rules outcome)
