-- The parts of a call's record.
use Rattle.riichi_hand.specs.HandParts.{ShapeParts}
use Rattle.riichi_deeper.specs.declared.thrown.Thrown.{Thrown}

pub record CallParts : Type 0 where
  pub hand : ShapeParts
  pub thrown : Thrown
