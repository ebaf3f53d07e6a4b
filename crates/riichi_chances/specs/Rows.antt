-- The numbers of a hand: for each number of turns that may be left those of the draws that make it ready, or win, and the upper ends.
use Rattle.std.specs.Prelude.{ℕ, List}

pub record Rows : Type 0 where
  pub ready : List ℕ
  pub win : List ℕ
  pub ready_at_most : List ℕ
  pub win_at_most : List ℕ
