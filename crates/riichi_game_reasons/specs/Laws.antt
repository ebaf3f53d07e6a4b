-- What a reason for the end of a game says.
use Rattle.std.specs.Prelude.{◌≡◌, true, false, ◌&&◌, Ok}
use Rattle.riichi_table.specs.declared.rules.TableRules.{TableRules}
use Rattle.riichi_table.specs.declared.state.GameState.{GameState}
use Rattle.riichi_table.specs.declared.outcome.Outcome.{Outcome}
use Rattle.riichi_table.specs.declared.outcome.Outcome.TheVariants.{End}
use Rattle.riichi_settle.specs.Winners.{as_played}
use Rattle.riichi_game.specs.Ends.{is_bust, is_win_or_draw, is_over_by_length, is_over_by_stop}
use Rattle.riichi_game.specs.Faults.{next_of}
use Rattle.riichi_game.specs.Following.{stays_after, points_after}
use Rattle.riichi_game.specs.declared.game.Progress.{Progress}
use Rattle.riichi_game_reasons.specs.EndReasons.{end_reason}
use Rattle.riichi_game_reasons.specs.declared.ends.EndReason.{EndReason}
use Rattle.riichi_game_reasons.specs.declared.ends.EndReason.TheVariants.{Said, Bust, Enough, Stopped, Played}

-- a reason holds of an outcome in a state: that end of the game which it names comes by it
abbrev pub HoldsOf : EndReason → TableRules → GameState → Outcome → Type 0
HoldsOf Said rules state outcome = outcome ≡ End
HoldsOf Bust rules state outcome = (rules.bust && is_bust (points_after state rules outcome)) ≡ true
HoldsOf Enough rules state outcome =
    is_over_by_length rules state (stays_after state rules outcome) (points_after state rules outcome) ≡ true
HoldsOf Stopped rules state outcome =
    is_over_by_stop rules state (is_win_or_draw (as_played rules outcome)) (stays_after state rules outcome) (points_after state rules outcome) ≡ true
HoldsOf Played rules state outcome =
    is_over_by_length rules state (stays_after state rules outcome) (points_after state rules outcome) ≡ true

-- of an outcome that isn't refused and ends a game that reason is told which holds
abbrev pub TellsWhatHolds : Type 0
TellsWhatHolds = (rules : TableRules) (before after : Progress) (outcome : Outcome) → before.is_over ≡ false
    → next_of before rules outcome ≡ Ok after → after.is_over ≡ true
    → HoldsOf (end_reason rules before.state after.state outcome) rules before.state outcome
