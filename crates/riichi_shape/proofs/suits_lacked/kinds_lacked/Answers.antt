use Rattle.riichi_tiles.specs.HeldKinds.{is_held}
use Rattle.riichi_shape.proofs.KindLemmas.{suits_at}
use Rattle.riichi_shape.proofs.suits_lacked.kinds_lacked.Goals as goal

pub returns : goal.returns
unfolding is_held
returns c = λ kind low.
    suits_at c.args.suits.now c.bits-3.result c.bits-2.result c.bits.result c.bits-honours.result c.from_bits.result c.bits-3.ensures.nine c.bits-2.ensures.nine c.bits.ensures.nine c.from_bits.ensures
    c.bits-3.ensures.each c.bits-2.ensures.each c.bits.ensures.each c.bits-honours.ensures.each kind low
