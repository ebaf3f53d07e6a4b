use Rattle.riichi_shape.proofs.PairsLacked.{pairs_lacked}
use Rattle.riichi_shape.proofs.laws.pairs.Goals as goal

pub returns : goal.returns
returns c = pairs_lacked
