-- When a game is over.
use Rattle.std.specs.Prelude.{ℕ, ◌+◌, Bool, true, false, not, ◌&&◌, ◌||◌, nat_lt, ℤ, pos, int_lt, int_le, Option, Some, None, is_some}
use Rattle.riichi_hand.specs.declared.win.Wind.{Wind}
use Rattle.riichi_hand.specs.declared.win.Wind.TheVariants.{East, South, West, North}
use Rattle.riichi_table.specs.Players.{of_player, is_same_player, of_some}
use Rattle.riichi_table.specs.declared.player.Player.TheVariants.{Fourth}
use Rattle.riichi_table.specs.declared.player.ByPlayer.{ByPlayer}
use Rattle.riichi_table.specs.declared.rules.TableRules.{TableRules}
use Rattle.riichi_table.specs.declared.rules.LastRound.{LastRound}
use Rattle.riichi_table.specs.declared.rules.LastRound.TheVariants as last
use Rattle.riichi_table.specs.declared.state.GameState.{GameState}
use Rattle.riichi_table.specs.declared.outcome.Outcome.{Outcome}
use Rattle.riichi_table.specs.declared.outcome.Outcome.TheVariants.{Ron, Tsumo, Draw, Penalty, Stands, End}
use Rattle.riichi_settle.specs.Winners.{as_played}
use Rattle.riichi_game.specs.Following.{stays_after, points_after}

-- ---- rounds

abbrev pub round_number : Wind → ℕ
round_number East = 0
round_number South = 1
round_number West = 2
round_number North = 3

abbrev pub last_number : LastRound → ℕ
last_number last.East = 0
last_number last.South = 1

abbrev pub is_before_last : TableRules → Wind → Bool
is_before_last rules round = nat_lt (round_number round) (last_number rules.length)

-- the one round more
abbrev pub is_behind_last : TableRules → Wind → Bool
is_behind_last rules round = nat_lt (last_number rules.length) (round_number round)

-- not even the one round more
abbrev pub is_beyond : TableRules → Wind → Bool
is_beyond rules round = nat_lt (last_number rules.length + 1) (round_number round)

-- the rules have the rounds up to the last, and one more only where there may be one
abbrev pub has_round : TableRules → Wind → Bool
has_round rules round = not (is_beyond rules round) && (not (is_behind_last rules round) || is_some rules.extra)

-- ---- points

unfoldable pub is_bust : ByPlayer ℤ → Bool
is_bust points = of_some (λ player. int_lt (of_player points player) (pos 0))

unfoldable pub has_so_many : ByPlayer ℤ → ℕ → Bool
has_so_many points most = of_some (λ player. int_le (pos most) (of_player points player))

-- somebody has the points for which no round more is played
abbrev pub is_enough : Option ℕ → ByPlayer ℤ → Bool
is_enough None points = true
is_enough (Some most) points = has_so_many points most

-- the fourth player has more points than each other
unfoldable pub fourth_leads : ByPlayer ℤ → Bool
fourth_leads points = int_lt points.first points.fourth && int_lt points.second points.fourth && int_lt points.third points.fourth

-- ---- the ends, of an outcome as it is played

abbrev pub is_win_or_draw : Outcome → Bool
is_win_or_draw (Ron from wins riichi) = true
is_win_or_draw (Tsumo winner win riichi) = true
is_win_or_draw (Draw ready nagashi riichi) = true
is_win_or_draw other = false

-- the round ends where its fourth dealer doesn't stay
abbrev pub ends_round : GameState → Bool → Bool
ends_round state stays = is_same_player state.dealer Fourth && not stays

-- the last round ends where somebody has enough points; the one more by its fourth dealer, or as soon as somebody has
abbrev pub is_over_by_length : TableRules → GameState → Bool → ByPlayer ℤ → Bool
is_over_by_length rules state stays points =
    not (is_before_last rules state.round)
    && ((ends_round state stays && (is_behind_last rules state.round || is_enough rules.extra points))
    || (is_behind_last rules state.round && is_enough rules.extra points))

-- the fourth dealer stays by a win or ready at a draw, in the last round or the one more, and is ahead of all, in the last round
-- with enough points
abbrev pub is_over_by_stop : TableRules → GameState → Bool → Bool → ByPlayer ℤ → Bool
is_over_by_stop rules state win_or_draw stays points =
    rules.stop && win_or_draw && is_same_player state.dealer Fourth && stays && not (is_before_last rules state.round)
    && fourth_leads points && (is_behind_last rules state.round || is_enough rules.extra points)

unfoldable pub is_over_with : TableRules → GameState → Bool → Bool → ByPlayer ℤ → Bool
is_over_with rules state win_or_draw stays points =
    (rules.bust && is_bust points) || is_over_by_length rules state stays points
    || is_over_by_stop rules state win_or_draw stays points

abbrev pub is_over_by_deal : GameState → TableRules → Outcome → Bool
is_over_by_deal state rules outcome =
    is_over_with rules state (is_win_or_draw (as_played rules outcome)) (stays_after state rules outcome) (points_after state rules outcome)

-- whether the game is over after an outcome, where it is `over` before
unfoldable pub over_after : Bool → GameState → TableRules → Outcome → Bool
over_after over state rules End = true
over_after over state rules (Penalty player points) = over
over_after over state rules (Stands written) = over
over_after over state rules outcome = is_over_by_deal state rules outcome
