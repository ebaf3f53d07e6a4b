use Rattle.std.proofs.Common.{rules}
use Rattle.riichi_shape.proofs.hand_joins.HandJoins.new.Goals as goal

pub returns : goal.returns
returns c = record { halves = c.of-halves.ensures; beside = λ suit. (let post = c.of.ensures suit in search rules) }
