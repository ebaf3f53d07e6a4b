-- What is asked of a hand, and of each that it leads to.
use Rattle.std.specs.Prelude.{◌≡◌, ℕ, ◌≤◌, List, slice_index}
use Rattle.riichi_hand.specs.HandParts.{ShapeParts}
use Rattle.riichi_chances.specs.AtMost.{counted_most}
use Rattle.riichi_chances.specs.Counted.{counted_draws}
use Rattle.riichi_chances.specs.declared.rows.Column.{Column}
use Rattle.riichi_chances.specs.declared.rows.Column.TheVariants.{Ready, Win, ReadyAtMost, WinAtMost}
use Rattle.riichi_chances.specs.Rows.{Rows}
use Rattle.riichi_chances.specs.declared.span.Span.{Span}
use Rattle.riichi_chances.specs.Numbers.{unseen_at}

-- how many tiles a hand may lack that is there
abbrev pub lack_of : Column → ℕ
lack_of Ready = 1
lack_of Win = 0
lack_of ReadyAtMost = 1
lack_of WinAtMost = 0

-- the least number that counts for what an accepted tile leads to, where the hand itself has so many
abbrev pub floor_of : Column → ℕ → ℕ
floor_of Ready own = 0
floor_of Win own = 0
floor_of ReadyAtMost own = own
floor_of WinAtMost own = own

-- the draws that are reached, or the upper end
abbrev pub counted_in : Column → ShapeParts → ℕ → ℕ → ℕ
counted_in Ready = counted_draws 1
counted_in Win = counted_draws 0
counted_in ReadyAtMost = counted_most 1
counted_in WinAtMost = counted_most 0

-- one of these, and the turns that are to come
pub record Aim : Type 0 where
  pub column : Column
  pub span : Span

-- the number of thirteen tiles where so many turns are left
abbrev pub draws_at : Aim → ℕ → ShapeParts → ℕ
draws_at aim left rest = counted_in aim.column rest (unseen_at aim.span left) left

-- for each number of turns that may be left the number of thirteen tiles
abbrev pub HasCounts : Aim → ShapeParts → List ℕ → Type 0
HasCounts aim parts numbers = (left : ℕ) → left ≤ aim.span.turns → slice_index numbers left ≡ draws_at aim left parts

-- the numbers of a column
abbrev pub numbers_for : Column → Rows → List ℕ
numbers_for Ready rows = rows.ready
numbers_for Win rows = rows.win
numbers_for ReadyAtMost rows = rows.ready_at_most
numbers_for WinAtMost rows = rows.win_at_most

-- those of each
abbrev pub HasRows : Span → ShapeParts → Rows → Type 0
HasRows span parts rows = (column : Column) → HasCounts (record { column = column; span = span }) parts (numbers_for column rows)
