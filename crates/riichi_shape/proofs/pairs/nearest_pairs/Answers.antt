use Rattle.std.proofs.Common.{refl, arith}
use Rattle.riichi_shape.proofs.PairLemmas.{held_is}
use Rattle.riichi_shape.proofs.PairsLacked.{nearest_pairs_are}
use Rattle.riichi_shape.proofs.pairs.nearest_pairs.Goals as goal

pub overflow_sub-held : goal.overflow_sub-held
overflow_sub-held c = omega (arith, held_is c.args.hand.now _ _ c.kinds_held-twos.ensures.value c.kinds_held-held.ensures.value)

pub returns : goal.returns
returns c = nearest_pairs_are c.args.hand.now c.kinds_held-twos.result c.kinds_held-held.result c.kinds_held-twos.ensures.value c.kinds_held-held.ensures.value _ (omega (arith, c.min-pairs.ensures, c.min-halves.ensures)) refl refl
