-- Why an outcome is refused, and what comes after one that is not.
use Rattle.std.specs.Prelude.{ℕ, ◌+◌, ◌*◌, Bool, false, not, ◌&&◌, nat_lt, nat_le, ℤ, pos, negsuc, int_lt, int_le, [], ◌∷◌, Option, Some, None, Result, Ok, Err}
use Rattle.std.specs.Ordering.{int_eq}
use Rattle.riichi_table.specs.Players.{of_player, by_players, with_player, of_some}
use Rattle.riichi_table.specs.RulesFaults.{cost_points}
use Rattle.riichi_table.specs.States.{all_points}
use Rattle.riichi_table.specs.declared.player.Player.{Player}
use Rattle.riichi_table.specs.declared.player.ByPlayer.{ByPlayer}
use Rattle.riichi_table.specs.declared.rules.TableRules.{TableRules}
use Rattle.riichi_table.specs.declared.state.GameState.{GameState}
use Rattle.riichi_table.specs.declared.outcome.Outcome.{Outcome}
use Rattle.riichi_table.specs.declared.outcome.Outcome.TheVariants.{Draw, Chombo, Penalty, Stands}
use Rattle.riichi_table.specs.declared.fault.OutcomeFault.{OutcomeFault}
use Rattle.riichi_table.specs.declared.fault.OutcomeFault.TheVariants as fault
use Rattle.riichi_game.specs.Outcomes.{riichi_in, is_penalty}
use Rattle.riichi_game.specs.Line.{fault_if, first_outcome_fault, line_fault}
use Rattle.riichi_game.specs.Following.{points_after, counters_after, sticks_after, state_after}
use Rattle.riichi_game.specs.Ends.{has_round, over_after}
use Rattle.riichi_game.specs.declared.game.Progress.{Progress}

-- ---- what the table shows

-- a bet of a player with fewer than 1000 points
unfoldable pub is_poor_bet : ℤ → Bool → Bool
is_poor_bet points bets = bets && int_lt points (pos 1000)

abbrev pub poor_bets : ByPlayer ℤ → ByPlayer Bool → ByPlayer Bool
poor_bets points riichi = by_players (λ player. is_poor_bet (of_player points player) (of_player riichi player))

unfoldable pub bet_of_too_few : GameState → Outcome → Bool
bet_of_too_few state outcome = of_some (of_player (poor_bets state.points (riichi_in outcome)))

abbrev pub unready : ByPlayer Bool → ByPlayer Bool → ByPlayer Bool
unready ready riichi = by_players (λ player. of_player riichi player && not (of_player ready player))

abbrev pub riichi_not_ready : Outcome → Bool
riichi_not_ready (Draw ready nagashi riichi) = of_some (of_player (unready ready riichi))
riichi_not_ready other = false

abbrev pub has_wrong_total : TableRules → Outcome → Bool
has_wrong_total rules (Stands written) = not (int_eq (all_points written) (pos (4 * rules.start)))
has_wrong_total rules other = false

abbrev pub has_wrong_round : TableRules → Outcome → Bool
has_wrong_round rules (Stands written) = not (has_round rules written.round)
has_wrong_round rules other = false

unfoldable pub table_fault : GameState → TableRules → Outcome → Option OutcomeFault
table_fault state rules outcome = first_outcome_fault (
    fault_if fault.BetOfTooFew (rules.bust && bet_of_too_few state outcome)
    ∷ fault_if fault.RiichiNotReady (riichi_not_ready outcome)
    ∷ fault_if fault.StandsSum (has_wrong_total rules outcome)
    ∷ fault_if fault.StandsRound (has_wrong_round rules outcome)
    ∷ []
    )

-- ---- what there is room for

-- a thousand million points up or down
abbrev pub is_kept : ℤ → Bool
is_kept points = int_le (negsuc 999999999) points && int_le points (pos 1000000000)

unfoldable pub are_kept : ByPlayer ℤ → Bool
are_kept points = is_kept points.first && is_kept points.second && is_kept points.third && is_kept points.fourth

abbrev pub added : ByPlayer ℕ → Player → ℕ → ByPlayer ℕ
added numbers player number = with_player numbers player (of_player numbers player + number)

-- a penalty, and what a chombo costs off the final points
unfoldable pub penalties_after : ByPlayer ℕ → TableRules → Outcome → ByPlayer ℕ
penalties_after penalties rules (Penalty player points) = added penalties player points
penalties_after penalties rules (Chombo player) = added penalties player (cost_points rules.chombo)
penalties_after penalties rules other = penalties

unfoldable pub are_few : ByPlayer ℕ → Bool
are_few penalties =
    nat_le penalties.first 1000000000 && nat_le penalties.second 1000000000
    && nat_le penalties.third 1000000000 && nat_le penalties.fourth 1000000000

abbrev pub points_fit : Progress → TableRules → Outcome → Bool
points_fit progress rules outcome =
    are_kept (points_after progress.state rules outcome) && are_few (penalties_after progress.penalties rules outcome)

unfoldable pub room_fault : Progress → TableRules → Outcome → Option OutcomeFault
room_fault progress rules outcome = first_outcome_fault (
    fault_if fault.OverCounters (nat_lt 99 (counters_after progress.state rules outcome))
    ∷ fault_if fault.OverSticks (nat_lt 99 (sticks_after progress.state rules outcome))
    ∷ fault_if fault.OverPoints (not (points_fit progress rules outcome))
    ∷ fault_if fault.GameOver (progress.is_over && not (is_penalty outcome))
    ∷ []
    )

-- ---- together

abbrev pub either : Option OutcomeFault → Option OutcomeFault → Option OutcomeFault
either None other = other
either (Some fault) other = Some fault

-- why an outcome is refused, or nothing
unfoldable pub fault_of : Progress → TableRules → Outcome → Option OutcomeFault
fault_of progress rules outcome =
    either (line_fault rules outcome) (either (table_fault progress.state rules outcome) (room_fault progress rules outcome))

-- how far the game has come after an outcome
unfoldable pub progress_after : Progress → TableRules → Outcome → Progress
progress_after progress rules outcome = record {
  state = state_after progress.state rules outcome;
  is_over = over_after progress.is_over progress.state rules outcome;
  penalties = penalties_after progress.penalties rules outcome;
}

-- a value, but where there is a fault
abbrev pub unless : {T : Type 0} → Option OutcomeFault → T → Result T OutcomeFault
unless None value = Ok value
unless (Some fault) value = Err fault

-- how far the game has come after an outcome, or why the outcome is refused
abbrev pub next_of : Progress → TableRules → Outcome → Result Progress OutcomeFault
next_of progress rules outcome = unless (fault_of progress rules outcome) (progress_after progress rules outcome)
