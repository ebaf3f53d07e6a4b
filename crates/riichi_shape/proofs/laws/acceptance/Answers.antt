use Rattle.riichi_shape.proofs.OneMore.{accepted}
use Rattle.riichi_shape.proofs.laws.acceptance.Goals as goal

pub returns : goal.returns
returns c = accepted
