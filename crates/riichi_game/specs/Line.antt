-- Why an outcome is refused whatever the table shows, but for its rules.
use Rattle.std.specs.Prelude.{Bool, false, not, ◌&&◌, ◌||◌, nat_le, nat_lt, if◌then◌else◌, List, [], ◌∷◌, Option, Some, None}
use Rattle.riichi_hand.specs.Rules.{Rules}
use Rattle.riichi_table.specs.Players.{of_player, by_players, is_same_player, of_some}
use Rattle.riichi_table.specs.Worths.{limits_of_worth}
use Rattle.riichi_table.specs.declared.player.Player.{Player}
use Rattle.riichi_table.specs.declared.player.ByPlayer.{ByPlayer}
use Rattle.riichi_table.specs.declared.rules.TableRules.{TableRules}
use Rattle.riichi_table.specs.declared.worth.Worth.{Worth}
use Rattle.riichi_table.specs.declared.worth.Worth.TheVariants.{Counted, Yakuman}
use Rattle.riichi_table.specs.declared.outcome.Liable.{Liable}
use Rattle.riichi_table.specs.declared.outcome.Win.{Win}
use Rattle.riichi_table.specs.declared.outcome.Outcome.{Outcome}
use Rattle.riichi_table.specs.declared.outcome.Outcome.TheVariants.{Ron, Draw}
use Rattle.riichi_table.specs.declared.fault.OutcomeFault.{OutcomeFault}
use Rattle.riichi_table.specs.declared.fault.OutcomeFault.TheVariants as fault
use Rattle.riichi_settle.specs.Winners.{wins_of, winners}
use Rattle.riichi_game.specs.Outcomes.{wins_in}
use Rattle.riichi_game.specs.Values.{is_limits}

-- this fault, where it holds
abbrev pub fault_if : OutcomeFault → Bool → Option OutcomeFault
fault_if fault holds = if holds then Some fault else None

-- the first of some faults that holds
abbrev pub first_outcome_fault : List (Option OutcomeFault) → Option OutcomeFault
first_outcome_fault [] = None
first_outcome_fault (None ∷ faults) = first_outcome_fault faults
first_outcome_fault (Some fault ∷ faults) = Some fault

-- ---- who takes part

abbrev pub nobody_wins : Outcome → Bool
nobody_wins (Ron from wins riichi) = not (of_some (of_player (winners wins)))
nobody_wins other = false

abbrev pub discarder_wins : Outcome → Bool
discarder_wins (Ron from wins riichi) = wins_of wins from
discarder_wins other = false

abbrev pub is_liable : Option Liable → Player → Bool
is_liable None player = false
is_liable (Some liable) player = is_same_player liable.player player

abbrev pub is_liable_for : Option Win → Player → Bool
is_liable_for None player = false
is_liable_for (Some win) player = is_liable win.liable player

-- liable for the hand of some winner
unfoldable pub is_liable_in : ByPlayer (Option Win) → Player → Bool
is_liable_in wins player = of_some (λ winner. is_liable_for (of_player wins winner) player)

abbrev pub liable_winners : ByPlayer (Option Win) → ByPlayer Bool
liable_winners wins = by_players (λ player. wins_of wins player && is_liable_in wins player)

unfoldable pub winner_liable : ByPlayer (Option Win) → Bool
winner_liable wins = of_some (of_player (liable_winners wins))

-- ---- what hands are worth

-- no counted hand has over 8000 base points, and no yakuman more limits than the rules allow
abbrev pub is_worth : Rules → Worth → Bool
is_worth rules (Counted base) = nat_le base 8000
is_worth rules (Yakuman limits) = is_limits rules limits

abbrev pub has_no_worth : Rules → Option Win → Bool
has_no_worth rules None = false
has_no_worth rules (Some win) = not (is_worth rules win.worth)

unfoldable pub no_such_worth : Rules → ByPlayer (Option Win) → Bool
no_such_worth rules wins = of_some (λ player. has_no_worth rules (of_player wins player))

-- liability is for one limit at least, and for no more than the hand has; a counted hand has none
abbrev pub has_wrong_limits : Worth → Option Liable → Bool
has_wrong_limits worth None = false
has_wrong_limits worth (Some liable) = nat_lt liable.limits 1 || nat_lt (limits_of_worth worth) liable.limits

abbrev pub is_wrongly_liable : Option Win → Bool
is_wrongly_liable None = false
is_wrongly_liable (Some win) = has_wrong_limits win.worth win.liable

unfoldable pub wrong_limits : ByPlayer (Option Win) → Bool
wrong_limits wins = of_some (λ player. is_wrongly_liable (of_player wins player))

-- ---- what the rules have off

unfoldable pub somebody_liable : ByPlayer (Option Win) → Bool
somebody_liable wins = of_some (is_liable_in wins)

abbrev pub has_nagashi : Outcome → Bool
has_nagashi (Draw ready nagashi riichi) = of_some (of_player nagashi)
has_nagashi other = false

-- ---- together

unfoldable pub line_fault : TableRules → Outcome → Option OutcomeFault
line_fault rules outcome = first_outcome_fault (
    fault_if fault.NobodyWins (nobody_wins outcome)
    ∷ fault_if fault.DiscarderWins (discarder_wins outcome)
    ∷ fault_if fault.WinnerLiable (winner_liable (wins_in outcome))
    ∷ fault_if fault.NoSuchWorth (no_such_worth rules.hand (wins_in outcome))
    ∷ fault_if fault.LiableLimits (wrong_limits (wins_in outcome))
    ∷ fault_if fault.LiableOff (not rules.liable && somebody_liable (wins_in outcome))
    ∷ fault_if fault.NagashiOff (not rules.nagashi && has_nagashi outcome)
    ∷ []
    )
