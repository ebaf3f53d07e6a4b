-- The rules of a table as a row.
use Rattle.std.specs.Prelude.{ℕ, ◌==◌, ◌&&◌, nat_lt, Bool, ℤ, pos, List, [], ◌∷◌, Option, Some, None, if◌then◌else◌, slice_index_or}
use Rattle.riichi_hand.specs.Rules.{Rules}
use Rattle.riichi_table.specs.Players.{one_where}
use Rattle.riichi_table.specs.declared.rules.ByPlace.{ByPlace}
use Rattle.riichi_table.specs.declared.rules.ChomboCost.{ChomboCost}
use Rattle.riichi_table.specs.declared.rules.ChomboCost.TheVariants as cost
use Rattle.riichi_table.specs.declared.rules.TableRules.{TableRules}
use Rattle.riichi_table.specs.declared.rules.Ties.{Ties}
use Rattle.riichi_table.specs.declared.rules.Ties.TheVariants as ties
use Rattle.riichi_table.specs.declared.rules.SeveralWinners.{SeveralWinners}
use Rattle.riichi_table.specs.declared.rules.SeveralWinners.TheVariants as ron
use Rattle.riichi_table.specs.declared.rules.CountersTo.{CountersTo}
use Rattle.riichi_table.specs.declared.rules.CountersTo.TheVariants as counters
use Rattle.riichi_table.specs.declared.rules.SticksTo.{SticksTo}
use Rattle.riichi_table.specs.declared.rules.SticksTo.TheVariants as sticks
use Rattle.riichi_table.specs.declared.rules.Renchan.{Renchan}
use Rattle.riichi_table.specs.declared.rules.Renchan.TheVariants as renchan
use Rattle.riichi_table.specs.declared.rules.LastRound.{LastRound}
use Rattle.riichi_table.specs.declared.rules.LastRound.TheVariants as last
use Rattle.riichi_table.specs.declared.rules.LeftSticks.{LeftSticks}
use Rattle.riichi_table.specs.declared.rules.LeftSticks.TheVariants as left
use Rattle.riichi_game_rows.specs.Fours.{is_flag_set}
use Rattle.riichi_game_rows.specs.declared.table_row.TableRow.{TableRow}

-- the number that stands for no points: no round more, or a mangan
abbrev pub no_points : ℕ
no_points = 4294967295

-- ---- reading

abbrev pub ties_numbered : ℕ → Ties
ties_numbered number = if number == 0 then ties.Share else ties.Seat

abbrev pub ron_numbered : ℕ → SeveralWinners
ron_numbered number = if number == 0 then ron.All else if number == 1 then ron.Nearest else ron.Two

abbrev pub counters_numbered : ℕ → CountersTo
counters_numbered number = if number == 0 then counters.Nearest else counters.Each

abbrev pub sticks_numbered : ℕ → SticksTo
sticks_numbered number = if number == 0 then sticks.Nearest else sticks.Own

abbrev pub renchan_numbered : ℕ → Renchan
renchan_numbered number = if number == 0 then renchan.Ready else renchan.Win

abbrev pub length_numbered : ℕ → LastRound
length_numbered number = if number == 0 then last.South else last.East

abbrev pub left_numbered : ℕ → LeftSticks
left_numbered number = if number == 0 then left.First else left.Lost

abbrev pub extra_numbered : ℕ → Option ℕ
extra_numbered points = if points == no_points then None else Some points

abbrev pub chombo_numbered : ℕ → ChomboCost
chombo_numbered points = if points == no_points then cost.Mangan else cost.Points points

abbrev pub uma_in : List ℤ → ByPlace ℤ
uma_in four = record {
  first = slice_index_or four 0 (pos 0);
  second = slice_index_or four 1 (pos 0);
  third = slice_index_or four 2 (pos 0);
  fourth = slice_index_or four 3 (pos 0);
}

-- each choice is one that there is
abbrev pub is_table : TableRow → Bool
is_table row =
    nat_lt row.ties 2 && nat_lt row.ron 3 && nat_lt row.counters 2 && nat_lt row.sticks 2 && nat_lt row.renchan 2
    && nat_lt row.length 2 && nat_lt row.left 2 && (row.zero == 0)

abbrev pub row_table : Rules → TableRow → TableRules
row_table hand row = record {
  hand = hand;
  start = row.start;
  returns = row.returns;
  uma = uma_in row.uma;
  ties = ties_numbered row.ties;
  ron = ron_numbered row.ron;
  counters = counters_numbered row.counters;
  sticks = sticks_numbered row.sticks;
  liable = is_flag_set row.liable;
  nagashi = is_flag_set row.nagashi;
  renchan = renchan_numbered row.renchan;
  length = length_numbered row.length;
  extra = extra_numbered row.extra;
  bust = is_flag_set row.bust;
  stop = is_flag_set row.stop;
  left = left_numbered row.left;
  chombo = chombo_numbered row.chombo;
}

-- the rules of a row, where hands are valued by these
abbrev pub table_in : Rules → TableRow → Option TableRules
table_in hand row = if is_table row then Some (row_table hand row) else None

-- ---- writing

abbrev pub ties_number : Ties → ℕ
ties_number ties.Share = 0
ties_number ties.Seat = 1

abbrev pub ron_number : SeveralWinners → ℕ
ron_number ron.All = 0
ron_number ron.Nearest = 1
ron_number ron.Two = 2

abbrev pub counters_number : CountersTo → ℕ
counters_number counters.Nearest = 0
counters_number counters.Each = 1

abbrev pub sticks_number : SticksTo → ℕ
sticks_number sticks.Nearest = 0
sticks_number sticks.Own = 1

abbrev pub renchan_number : Renchan → ℕ
renchan_number renchan.Ready = 0
renchan_number renchan.Win = 1

abbrev pub length_number : LastRound → ℕ
length_number last.South = 0
length_number last.East = 1

abbrev pub left_number : LeftSticks → ℕ
left_number left.First = 0
left_number left.Lost = 1

abbrev pub extra_points : Option ℕ → ℕ
extra_points None = no_points
extra_points (Some points) = points

abbrev pub chombo_points : ChomboCost → ℕ
chombo_points cost.Mangan = no_points
chombo_points (cost.Points points) = points

-- the row of rules, where the rules for hands have this number
abbrev pub table_row : ℕ → TableRules → TableRow
table_row number rules = record {
  rules = number;
  start = rules.start;
  returns = rules.returns;
  extra = extra_points rules.extra;
  chombo = chombo_points rules.chombo;
  uma = rules.uma.first ∷ rules.uma.second ∷ rules.uma.third ∷ rules.uma.fourth ∷ [];
  ties = ties_number rules.ties;
  ron = ron_number rules.ron;
  counters = counters_number rules.counters;
  sticks = sticks_number rules.sticks;
  liable = one_where rules.liable;
  nagashi = one_where rules.nagashi;
  renchan = renchan_number rules.renchan;
  length = length_number rules.length;
  bust = one_where rules.bust;
  stop = one_where rules.stop;
  left = left_number rules.left;
  zero = 0;
}
