-- Rows of points, one for each number of turns that may be left.
use Rattle.std.specs.Prelude.{◌≡◌, ℕ, ◌+◌, ◌-◌, ◌*◌, ◌<◌, ◌≤◌, max, List, [], slice_index, slice_index_or}
use Rattle.riichi_hand.specs.HandParts.{ShapeParts}
use Rattle.riichi_chances.specs.Draws.{greatest}
use Rattle.riichi_chances.specs.Graph.{draws_value, placed_hand}
use Rattle.riichi_chances.specs.Numbers.{most_draws, unseen_at}
use Rattle.riichi_chances.specs.declared.node.Draw.{Draw}
use Rattle.riichi_chances.specs.declared.span.Span.{Span}
use Rattle.riichi_worth.specs.CountedPoints.{counted_points}
use Rattle.riichi_worth.specs.PointRows.{PointRow}
use Rattle.riichi_worth.specs.declared.stakes.Stakes.{Stakes}
use Rattle.riichi_worth.specs.declared.stakes.TheConstants.{MOST_PRIZE}

-- the points of a hand where so many turns are left
abbrev pub points_at : Stakes → Span → ℕ → ShapeParts → ℕ
points_at stakes span left parts = counted_points stakes parts (unseen_at span left) left

-- for each number of turns that may be left
abbrev pub HasPoints : Stakes → Span → ShapeParts → List ℕ → Type 0
HasPoints stakes span parts numbers = (left : ℕ) → left ≤ span.turns → slice_index numbers left ≡ points_at stakes span left parts

abbrev pub no_row : PointRow
no_row = record { points = [] }

-- the points of the first places are those of the hands there
abbrev pub ArePlaced : Stakes → Span → ShapeParts → List (List ℕ) → ℕ → List PointRow → Type 0
ArePlaced stakes span root hands count rows = (place : ℕ) → place < count → HasPoints stakes span (placed_hand root hands place) (slice_index_or rows place no_row).points

-- the points of a place where so many turns are left
abbrev pub placed_points : List PointRow → ℕ → ℕ → ℕ
placed_points rows left place = slice_index (slice_index_or rows place no_row).points left

-- the greatest of some places
abbrev pub greatest_points : List PointRow → ℕ → List ℕ → ℕ
greatest_points rows left places = max (greatest (placed_points rows left) places) 0

-- the sum over some draws of their live copies times this
abbrev pub begun_points : List PointRow → ℕ → List Draw → ℕ
begun_points rows left draws = draws_value (placed_points rows left) 0 draws

-- no hand has more points where so many turns are left
abbrev pub most_points : ℕ → ℕ
most_points left = MOST_PRIZE * most_draws left

-- where a first tile isn't one of so many, the points of the turns behind it, and those that begin with one of them
pub record FollowPoints (span : Span) (live : ℕ) (begun numbers : List ℕ) : Type 0 where
  pub none : slice_index numbers 0 ≡ 0
  pub more : (left : ℕ) → left < span.turns → slice_index numbers (left + 1) ≡ (unseen_at span (left + 1) - live) * slice_index numbers left + slice_index begun left

-- so few begin with one of so many tiles
abbrev pub BeginFewPoints : Span → ℕ → List ℕ → Type 0
BeginFewPoints span live begun = (left : ℕ) → left < span.turns → slice_index begun left ≤ live * most_points left
