use Rattle.std.proofs.Common.{rules}
use Rattle.riichi_shape.proofs.hand_joins.HandJoins.with_row.Goals as goal

pub with-halves-requires : goal.with-halves-requires
with-halves-requires c = rw c.suit-own.ensures.value (record { before = c.requires.before; are_halves = c.requires.are_joins.halves; same = c.requires.same })

pub returns : goal.returns
returns c = record { halves = c.with-halves.ensures; beside = λ suit. (let post = c.of.ensures suit in search rules) }
