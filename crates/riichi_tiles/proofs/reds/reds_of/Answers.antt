use Rattle.riichi_tiles.proofs.ReadZeros.{reds_in_zeros}
use Rattle.riichi_tiles.proofs.reds.reds_of.Goals as goal

pub returns-clause-all : goal.returns-clause-all
returns-clause-all c = λ counts spells. rw (c.zeros.ensures.value, c.zeros-2.ensures.value, c.zeros-3.ensures.value) (reds_in_zeros c.args.text.now counts spells)
