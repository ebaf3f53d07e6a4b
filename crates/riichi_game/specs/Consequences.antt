-- What follows from an outcome, whether or not a state has room for it.
use Rattle.std.specs.Prelude.{◌≡◌, ◌≤◌, true}
use Rattle.riichi_table.specs.declared.rules.TableRules.{TableRules}
use Rattle.riichi_table.specs.declared.outcome.Outcome.{Outcome}
use Rattle.riichi_settle.specs.Winners.{as_played}
use Rattle.riichi_game.specs.Following.{points_after, sticks_after, counters_after, stays_after}
use Rattle.riichi_game.specs.Ends.{is_win_or_draw}
use Rattle.riichi_game.specs.Faults.{penalties_after, are_kept, are_few}
use Rattle.riichi_game.specs.declared.consequences.Consequences.{Consequences}
use Rattle.riichi_game.specs.declared.game.Progress.{Progress}

abbrev pub consequences_of : Progress → TableRules → Outcome → Consequences
consequences_of progress rules outcome = record {
  points = points_after progress.state rules outcome;
  sticks = sticks_after progress.state rules outcome;
  counters = counters_after progress.state rules outcome;
  penalties = penalties_after progress.penalties rules outcome;
  stays = stays_after progress.state rules outcome;
  is_win_or_draw = is_win_or_draw (as_played rules outcome);
}

-- a state has room for it
pub record FitsState (follows : Consequences) : Type 0 where
  pub counters : follows.counters ≤ 99
  pub sticks : follows.sticks ≤ 99
  pub points : are_kept follows.points ≡ true
  pub penalties : are_few follows.penalties ≡ true
