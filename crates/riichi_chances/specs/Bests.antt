-- What the draws of a hand lead to.
use Rattle.std.specs.Prelude.{◌≡◌, ℕ, ◌+◌, ◌-◌, ◌*◌, ◌<◌, ◌≤◌, max, List, slice_index}
use Rattle.riichi_chances.specs.Aims.{floor_of}
use Rattle.riichi_chances.specs.Draws.{all_draws}
use Rattle.riichi_chances.specs.Graph.{begun_with}
use Rattle.riichi_chances.specs.Numbers.{most_draws, unseen_at}
use Rattle.riichi_chances.specs.declared.node.Draw.{Draw}
use Rattle.riichi_chances.specs.declared.rows.Column.{Column}
use Rattle.riichi_chances.specs.Rows.{Rows}
use Rattle.riichi_chances.specs.declared.span.Span.{Span}

-- the live copies of each draw times the greatest number that it leads to, where the hand itself has so many
abbrev pub begun_by : Column → List Rows → List Draw → ℕ → ℕ → ℕ
begun_by column earlier draws left own = begun_with column earlier left (floor_of column own) draws

-- no more than so many tiles begin them
abbrev pub BeginFew : Column → Span → ℕ → List Rows → List Draw → Type 0
BeginFew column span live earlier draws = (left own : ℕ) → left < span.turns → own ≤ most_draws left → begun_by column earlier draws left own ≤ live * most_draws left

-- where the first tile isn't one of so many, the draws of the turns behind it, and those that begin with one of them
pub record Follow (span : Span) (live : ℕ) (begun : ℕ → ℕ → ℕ) (numbers : List ℕ) : Type 0 where
  pub none : slice_index numbers 0 ≡ 0
  pub more : (left : ℕ) → left < span.turns → slice_index numbers (left + 1) ≡ (unseen_at span (left + 1) - live) * slice_index numbers left + begun left (slice_index numbers left)

abbrev pub FollowDraws : Column → Span → ℕ → List Rows → List Draw → List ℕ → Type 0
FollowDraws column span live earlier draws = Follow span live (begun_by column earlier draws)

-- where the hand is ready, so that any of so many live tiles wins
abbrev pub FollowReady : Column → Span → ℕ → List ℕ → Type 0
FollowReady column span live = Follow span live (λ left own. live * max (all_draws (unseen_at span left) left) (floor_of column own))
