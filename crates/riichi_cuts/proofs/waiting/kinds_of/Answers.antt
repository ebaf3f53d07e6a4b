use Rattle.riichi_cuts.proofs.RankBits.{at_kind}
use Rattle.riichi_cuts.proofs.waiting.kinds_of.Goals as goal

pub returns-clause-kinds : goal.returns-clause-kinds
returns-clause-kinds c = λ kind low.
    at_kind c.args.ranks.now c.bits-3.result c.bits-2.result c.bits.result c.bits-honours.result c.from_bits.result kind
    c.bits-3.ensures.value c.bits-2.ensures.value c.bits.ensures.value c.bits-honours.ensures.value c.bits-3.ensures.nine c.bits-2.ensures.nine c.bits.ensures.nine c.from_bits.ensures low
