use Rattle.riichi_shape.proofs.Choices.{discards_are}
use Rattle.riichi_shape.proofs.laws.discards.Goals as goal

pub returns : goal.returns
returns c = discards_are
