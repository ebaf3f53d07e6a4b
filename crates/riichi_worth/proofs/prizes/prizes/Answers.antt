use Rattle.riichi_deeper.proofs.DrawnLemmas.{list_of_thirteen, never_fourteen}
use Rattle.riichi_worth.proofs.prizes.prizes.Goals as goal

pub prizes_among-requires : goal.prizes_among-requires
prizes_among-requires g c = record { accepted = list_of_thirteen c.args.hand.now c.shape_with-answer.result c.in-Thirteen.accepted c.shape_with-answer.ensures.shape c.requires.thirteen c.in-Thirteen.is }

pub unreachable-requires : goal.unreachable-requires
unreachable-requires g c = never_fourteen c.args.hand.now c.shape_with-answer.result c.in-Fourteen.field-0 c.shape_with-answer.ensures.shape c.requires.thirteen c.in-Fourteen.is
