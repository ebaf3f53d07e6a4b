use Rattle.std.proofs.Common.{FitsSigned, sym, ◌∙◌, rules, arith}
use Rattle.std.proofs.Common as width
use Rattle.std.proofs.lemmas.Int.{ints}
use Rattle.riichi_shape.specs.EveryWinning.{distance_of}
use Rattle.riichi_deeper.proofs.DeeperLemmas.{far_some, ready_none}
use Rattle.riichi_deeper.proofs.DrawnLemmas.{list_of_thirteen, never_fourteen, shanten_told}
use Rattle.riichi_deeper.proofs.outlook.deeper.Goals as goal

pub returns-else-is_far-clause-value : goal.returns-else-is_far-clause-value
returns-else-is_far-clause-value g c =
    let fits : FitsSigned width.w8 c.shape_with-answer.result.shanten = search rules in
    let parts = c.args.asked.now in
    ready_none parts (sym (c.is_far.ensures (distance_of parts.tiles parts.melds) (omega (arith, ints, shanten_told parts c.shape_with-answer.result c.shape_with-answer.ensures.shape))) ∙ c.if-is_far.false)

pub sums-requires-clause-accepted : goal.sums-requires-clause-accepted
sums-requires-clause-accepted g c = list_of_thirteen c.args.asked.now c.shape_with-answer.result c.in-Thirteen.accepted c.shape_with-answer.ensures.shape c.requires c.in-Thirteen.is

pub unreachable-requires : goal.unreachable-requires
unreachable-requires g c = never_fourteen c.args.asked.now c.shape_with-answer.result c.in-Fourteen.field-0 c.shape_with-answer.ensures.shape c.requires c.in-Fourteen.is

pub returns-in-Thirteen-clause-value : goal.returns-in-Thirteen-clause-value
returns-in-Thirteen-clause-value g c =
    let fits : FitsSigned width.w8 c.shape_with-answer.result.shanten = search rules in
    let parts = c.args.asked.now in
    far_some parts c.sums.result (sym (c.is_far.ensures (distance_of parts.tiles parts.melds) (omega (arith, ints, shanten_told parts c.shape_with-answer.result c.shape_with-answer.ensures.shape))) ∙ c.if-is_far.true) c.sums.ensures.second c.sums.ensures.good
