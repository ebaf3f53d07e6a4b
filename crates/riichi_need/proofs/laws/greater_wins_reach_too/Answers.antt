use Rattle.riichi_need.proofs.Rising.{greater_reaches_too}
use Rattle.riichi_need.proofs.laws.greater_wins_reach_too.Goals as goal

pub returns : goal.returns
returns c = greater_reaches_too
