use Rattle.riichi_deeper.proofs.DeeperLemmas.{best_is}
use Rattle.riichi_deeper.proofs.DrawnLemmas.{list_of_fourteen, never_thirteen}
use Rattle.riichi_deeper.proofs.outlook.best_left.Goals as goal

pub unreachable-requires : goal.unreachable-requires
unreachable-requires g c = never_thirteen c.args.asked.now c.shape_with-answer.result c.in-Thirteen.field-0 c.shape_with-answer.ensures.shape c.requires c.in-Thirteen.is

pub returns-clause-value : goal.returns-clause-value
returns-clause-value g c =
    best_is c.args.asked.now c.in-Fourteen.discards c.first_live.result (list_of_fourteen c.args.asked.now c.shape_with-answer.result c.in-Fourteen.discards c.shape_with-answer.ensures.shape c.requires c.in-Fourteen.is) c.first_live.ensures
