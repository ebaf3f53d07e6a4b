-- The parts of a hand and of what was thrown.
use Rattle.std.specs.Prelude.{ℕ, List}
use Rattle.riichi_hand.specs.HandParts.{ShapeParts}

-- the hand; what its player has thrown; what a threatening player has thrown; and what all others have thrown since that player's riichi
pub record SafeParts : Type 0 where
  pub hand : ShapeParts
  pub own : List ℕ
  pub thrown : List ℕ
  pub since : List ℕ
