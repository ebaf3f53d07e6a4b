-- Three common choices of rules.
use Rattle.std.specs.Prelude.{ℕ, true, false, ℤ, pos, neg_ℤ, Some, None}
use Rattle.riichi_hand.specs.Rules.{first_profile}
use Rattle.riichi_table.specs.declared.rules.ByPlace.{ByPlace}
use Rattle.riichi_table.specs.declared.rules.TableRules.{TableRules}
use Rattle.riichi_table.specs.declared.rules.Ties.TheVariants as ties
use Rattle.riichi_table.specs.declared.rules.SeveralWinners.TheVariants as ron
use Rattle.riichi_table.specs.declared.rules.CountersTo.TheVariants as counters
use Rattle.riichi_table.specs.declared.rules.SticksTo.TheVariants as sticks
use Rattle.riichi_table.specs.declared.rules.Renchan.TheVariants as renchan
use Rattle.riichi_table.specs.declared.rules.LastRound.TheVariants as last
use Rattle.riichi_table.specs.declared.rules.LeftSticks.TheVariants as left
use Rattle.riichi_table.specs.declared.rules.ChomboCost.TheVariants as cost

-- what the third and the fourth give, the second and the first get
abbrev pub uma_of : ℕ → ℕ → ByPlace ℤ
uma_of first second = record { first = pos first; second = pos second; third = neg_ℤ (pos second); fourth = neg_ℤ (pos first) }

abbrev pub club : TableRules
club = record {
  hand = first_profile;
  start = 30000;
  returns = 30000;
  uma = uma_of 15000 5000;
  ties = ties.Share;
  ron = ron.All;
  counters = counters.Nearest;
  sticks = sticks.Nearest;
  liable = true;
  nagashi = false;
  renchan = renchan.Ready;
  length = last.South;
  extra = None;
  bust = false;
  stop = false;
  left = left.First;
  chombo = cost.Points 20000;
}

abbrev pub league : TableRules
league = record club { start = 25000; uma = uma_of 30000 10000; ron = ron.Nearest }

abbrev pub online : TableRules
online = record club {
  start = 25000;
  uma = uma_of 20000 10000;
  ties = ties.Seat;
  ron = ron.Two;
  nagashi = true;
  extra = Some 30000;
  bust = true;
  stop = true;
}
