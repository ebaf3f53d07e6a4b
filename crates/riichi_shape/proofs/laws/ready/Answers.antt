use Rattle.riichi_shape.proofs.ReadyLemmas.{ready_is}
use Rattle.riichi_shape.proofs.laws.ready.Goals as goal

pub returns : goal.returns
returns c = ready_is
