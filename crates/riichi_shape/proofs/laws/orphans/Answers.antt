use Rattle.riichi_shape.proofs.OrphansLacked.{orphans_lacked}
use Rattle.riichi_shape.proofs.laws.orphans.Goals as goal

pub returns : goal.returns
returns c = orphans_lacked
