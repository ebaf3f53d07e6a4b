-- What a rank costs, as the code holds it.
use Rattle.std.specs.Prelude.{◌≡◌, ℕ}
use Rattle.riichi_rows.specs.Open.{cost, IsMarkOf}
use Rattle.riichi_rows.specs.declared.cost.Cost.{Cost}
use Rattle.riichi_rows.specs.declared.costs.Costs.{Costs}

-- what it costs to hold so many tiles of a rank with this bit
pub record IsCost (have limit bit used : ℕ) (x : Cost) : Type 0 where
  pub tiles : x.tiles ≡ cost have limit used
  pub mark : IsMarkOf bit x.tiles x.mark

pub record AreCosts (have limit bit : ℕ) (x : Costs) : Type 0 where
  pub zero : IsCost have limit bit 0 x.zero
  pub one : IsCost have limit bit 1 x.one
  pub two : IsCost have limit bit 2 x.two
  pub three : IsCost have limit bit 3 x.three
  pub four : IsCost have limit bit 4 x.four
