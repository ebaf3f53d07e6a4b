-- A row of points.
use Rattle.std.specs.Prelude.{ℕ, List}

-- for each number of turns that may be left, the points of all draws
pub record PointRow : Type 0 where
  pub points : List ℕ
