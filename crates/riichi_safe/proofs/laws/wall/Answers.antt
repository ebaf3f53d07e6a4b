use Rattle.riichi_safe.proofs.SafeLemmas.{wall}
use Rattle.riichi_safe.proofs.laws.wall.Goals as goal

pub returns : goal.returns
returns c = wall
