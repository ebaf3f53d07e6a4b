-- The parts of a record of worth.
use Rattle.riichi_hand.specs.HandParts.{ShapeParts}
use Rattle.riichi_worth.specs.declared.stakes.Stakes.{Stakes}

-- a hand, and what its win is valued by
pub record WorthParts : Type 0 where
  pub hand : ShapeParts
  pub stakes : Stakes
