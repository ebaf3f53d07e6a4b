use Rattle.riichi_safe.proofs.SafeLemmas.{suji}
use Rattle.riichi_safe.proofs.laws.suji.Goals as goal

pub returns : goal.returns
returns c = suji
