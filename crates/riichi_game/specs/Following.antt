-- What the table shows after an outcome.
use Rattle.std.specs.Prelude.{ℕ, ◌+◌, Bool, true, false, if◌then◌else◌, ℤ}
use Rattle.riichi_hand.specs.declared.win.Wind.{Wind}
use Rattle.riichi_hand.specs.declared.win.Wind.TheVariants.{East, South, West, North}
use Rattle.riichi_table.specs.Players.{of_player, is_same_player, after}
use Rattle.riichi_table.specs.declared.player.Player.{Player}
use Rattle.riichi_table.specs.declared.player.Player.TheVariants.{Fourth}
use Rattle.riichi_table.specs.declared.player.ByPlayer.{ByPlayer}
use Rattle.riichi_table.specs.declared.rules.TableRules.{TableRules}
use Rattle.riichi_table.specs.declared.rules.Renchan.{Renchan}
use Rattle.riichi_table.specs.declared.rules.Renchan.TheVariants as renchan
use Rattle.riichi_table.specs.declared.state.GameState.{GameState}
use Rattle.riichi_table.specs.declared.outcome.Outcome.{Outcome}
use Rattle.riichi_table.specs.declared.outcome.Outcome.TheVariants.{Ron, Tsumo, Draw, Abort, Stands}
use Rattle.riichi_settle.specs.Winners.{wins_of, as_played}
use Rattle.riichi_settle.specs.Settled.{points_after_moves, sticks_by, moves_of}

-- ---- who deals next, of an outcome as it is played

abbrev pub stays_ready : Renchan → Bool → Bool
stays_ready renchan.Ready ready = ready
stays_ready renchan.Win ready = false

-- the dealer stays who wins, or is ready at a draw where the rules say so, or whose deal is played again
unfoldable pub stays : Renchan → Player → Outcome → Bool
stays renchan dealer (Ron from wins riichi) = wins_of wins dealer
stays renchan dealer (Tsumo winner win riichi) = is_same_player winner dealer
stays renchan dealer (Draw ready nagashi riichi) = stays_ready renchan (of_player ready dealer)
stays renchan dealer other = true

abbrev pub one_more_if : Bool → ℕ → ℕ
one_more_if dealer_wins counters = if dealer_wins then counters + 1 else 0

-- a counter more after the dealer's win, a draw or an abortive draw; none after the win of others; as many where nothing is played
unfoldable pub counters_with : ℕ → Player → Outcome → ℕ
counters_with counters dealer (Ron from wins riichi) = one_more_if (wins_of wins dealer) counters
counters_with counters dealer (Tsumo winner win riichi) = one_more_if (is_same_player winner dealer) counters
counters_with counters dealer (Draw ready nagashi riichi) = counters + 1
counters_with counters dealer (Abort riichi) = counters + 1
counters_with counters dealer (Stands written) = written.counters
counters_with counters dealer other = counters

abbrev pub wind_after : Wind → Wind
wind_after East = South
wind_after South = West
wind_after West = North
wind_after North = East

-- behind the fourth dealer the next round begins
abbrev pub round_behind : Wind → Player → Wind
round_behind round Fourth = wind_after round
round_behind round dealer = round

-- ---- each part of the next state

abbrev pub stays_after : GameState → TableRules → Outcome → Bool
stays_after state rules outcome = stays rules.renchan state.dealer (as_played rules outcome)

unfoldable pub points_after : GameState → TableRules → Outcome → ByPlayer ℤ
points_after state rules (Stands written) = written.points
points_after state rules outcome = points_after_moves state.points (moves_of state rules outcome)

unfoldable pub sticks_after : GameState → TableRules → Outcome → ℕ
sticks_after state rules (Stands written) = written.sticks
sticks_after state rules outcome = sticks_by state.sticks (moves_of state rules outcome)

abbrev pub counters_after : GameState → TableRules → Outcome → ℕ
counters_after state rules outcome = counters_with state.counters state.dealer (as_played rules outcome)

-- where the dealer stays or doesn't
unfoldable pub round_by : GameState → Bool → Outcome → Wind
round_by state stays (Stands written) = written.round
round_by state stays outcome = if stays then state.round else round_behind state.round state.dealer

unfoldable pub dealer_by : GameState → Bool → Outcome → Player
dealer_by state stays (Stands written) = written.dealer
dealer_by state stays outcome = if stays then state.dealer else after state.dealer

abbrev pub round_after : GameState → TableRules → Outcome → Wind
round_after state rules outcome = round_by state (stays_after state rules outcome) outcome

abbrev pub dealer_after : GameState → TableRules → Outcome → Player
dealer_after state rules outcome = dealer_by state (stays_after state rules outcome) outcome

-- what the table shows next; a penalty and the end change nothing of it
abbrev pub state_after : GameState → TableRules → Outcome → GameState
state_after state rules outcome = record {
  points = points_after state rules outcome;
  round = round_after state rules outcome;
  dealer = dealer_after state rules outcome;
  counters = counters_after state rules outcome;
  sticks = sticks_after state rules outcome;
}
