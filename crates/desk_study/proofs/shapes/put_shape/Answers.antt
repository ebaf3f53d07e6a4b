use Rattle.std.proofs.Common.{◌++◌, ◌∙◌, FitsSigned, ap, rules}
use Rattle.std.proofs.Common as width
use Rattle.std.proofs.Math.Facts.{to_z-of_z}
use mir.Syntax.{w8}
use mir.Val.{of_z, to_z}
use Rattle.riichi_deeper.proofs.DrawnLemmas.{list_of_fourteen}
use Rattle.riichi_study.specs.Findings.{Finding}
use Rattle.desk_study.specs.Answers.{told_in}
use Rattle.desk_study.proofs.FindingLemmas.{discards_found, fourteen_by, hand_found, thirteen_by}
use Rattle.desk_study.proofs.shapes.put_shape.Goals as goal

pub deeper-outlook-requires : goal.deeper-outlook-requires
deeper-outlook-requires g c = thirteen_by c.args.hand.now c.tiles-shape.ensures.shape c.shape_with-answer.result c.shape_with-answer.ensures.shape c.in-Thirteen.accepted c.in-Thirteen.is

pub prospects-list-requires-clause-fourteen : goal.prospects-list-requires-clause-fourteen
prospects-list-requires-clause-fourteen g c = fourteen_by c.args.hand.now c.tiles-shape.ensures.shape c.shape_with-answer.result c.shape_with-answer.ensures.shape c.in-Fourteen.discards c.in-Fourteen.is

pub prospects-list-requires-clause-discards : goal.prospects-list-requires-clause-discards
prospects-list-requires-clause-discards g c =
    let answer_is = c.shape_with-answer.ensures.shape in
    let fourteen = fourteen_by c.args.hand.now c.tiles-shape.ensures.shape c.shape_with-answer.result answer_is c.in-Fourteen.discards c.in-Fourteen.is in
    list_of_fourteen c.args.hand.now c.shape_with-answer.result c.in-Fourteen.discards answer_is fourteen c.in-Fourteen.is

pub returns-in-Thirteen-clause-bytes : goal.returns-in-Thirteen-clause-bytes
returns-in-Thirteen-clause-bytes g c =
    let before = c.args.outbox.now.bytes.items in
    let answer = c.shape_with-answer.result in
    let fits : FitsSigned width.w8 answer.shanten = search rules in
    c.put_hand.ensures.bytes
    ∙ ap (λ (found : Finding). before ++ told_in c.args.form found) (hand_found c.args.hand.now c.tiles-shape.ensures.shape answer c.shape_with-answer.ensures.shape c.args.order (to_z w8 (of_z w8 answer.shanten))
    c.in-Thirteen.accepted c.deeper-outlook.result (to_z-of_z fits) c.in-Thirteen.is c.deeper-outlook.ensures.value)

pub returns-in-Fourteen-clause-bytes : goal.returns-in-Fourteen-clause-bytes
returns-in-Fourteen-clause-bytes g c =
    let before = c.args.outbox.now.bytes.items in
    let answer = c.shape_with-answer.result in
    let fits : FitsSigned width.w8 answer.shanten = search rules in
    c.put_discards.ensures.bytes
    ∙ ap (λ (found : Finding). before ++ told_in c.args.form found) (discards_found c.args.hand.now c.tiles-shape.ensures.shape answer c.shape_with-answer.ensures.shape c.args.order (to_z w8 (of_z w8 answer.shanten))
    c.in-Fourteen.discards c.as_slice.result.now c.prospects-list.result.items (to_z-of_z fits) c.in-Fourteen.is c.as_slice.ensures.value c.prospects-list.ensures.value)
