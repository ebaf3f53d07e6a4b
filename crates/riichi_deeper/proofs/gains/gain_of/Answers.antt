use Rattle.std.proofs.Common.{◌≡◌, FitsSigned, ap, sym, ◌∙◌, rules, arith}
use Rattle.std.proofs.Common as width
use Rattle.std.proofs.lemmas.Int.{ints}
use Rattle.riichi_shape.specs.Answer.{shape_answer_of}
use Rattle.riichi_shape.specs.EveryWinning.{distance_of}
use Rattle.riichi_deeper.specs.Calls.{parts_after}
use Rattle.riichi_deeper.proofs.DrawnLemmas.{list_of_fourteen, never_thirteen, shanten_told}
use Rattle.riichi_deeper.proofs.GainLemmas.{after_is_parts, fourteen_after, gain_none, no_gain, some_gain}
use Rattle.riichi_deeper.proofs.gains.gain_of.Goals as goal

pub returns-in_err-after-clause-value : goal.returns-in_err-after-clause-value
returns-in_err-after-clause-value g c = c.from_residual.ensures ∙ gain_none c.args.asked.now c.args.tile c.args.meld.now (sym c.in_err-after.was ∙ c.after_call.ensures.value)

pub returns-else-is_nearer-clause-value : goal.returns-else-is_nearer-clause-value
returns-else-is_nearer-clause-value g c =
    let parts = c.args.asked.now in
    let later = parts_after parts c.args.tile c.args.meld.now in
    let after_is = after_is_parts parts c.args.tile c.args.meld.now c.in_ok-after.after (sym c.in_ok-after.was ∙ c.after_call.ensures.value) in
    let answer_is = c.shape_with-answer.ensures.shape ∙ ap shape_answer_of after_is in
    let fits : FitsSigned width.w8 c.shape_with-answer.result.shanten = search rules in
    no_gain parts c.args.tile c.args.meld.now c.in_ok-after.ensures.can c.requires.no_kong
    (sym (c.is_nearer.ensures (distance_of parts.tiles parts.melds) (distance_of later.tiles later.melds) (omega (arith, ints, shanten_told later c.shape_with-answer.result answer_is)) (omega (arith, ints, c.requires.shanten))) ∙ c.if-is_nearer.false)

pub unreachable-requires : goal.unreachable-requires
unreachable-requires g c =
    let parts = c.args.asked.now in
    let later = parts_after parts c.args.tile c.args.meld.now in
    let after_is = after_is_parts parts c.args.tile c.args.meld.now c.in_ok-after.after (sym c.in_ok-after.was ∙ c.after_call.ensures.value) in
    never_thirteen later c.shape_with-answer.result c.in-Thirteen.field-0 (c.shape_with-answer.ensures.shape ∙ ap shape_answer_of after_is) (fourteen_after parts c.args.tile c.args.meld.now c.in_ok-after.ensures.can c.requires.no_kong) c.in-Thirteen.is

pub returns-in-Fourteen-clause-value : goal.returns-in-Fourteen-clause-value
returns-in-Fourteen-clause-value g c =
    let parts = c.args.asked.now in
    let later = parts_after parts c.args.tile c.args.meld.now in
    let after_is = after_is_parts parts c.args.tile c.args.meld.now c.in_ok-after.after (sym c.in_ok-after.was ∙ c.after_call.ensures.value) in
    let answer_is = c.shape_with-answer.ensures.shape ∙ ap shape_answer_of after_is in
    let fits : FitsSigned width.w8 c.shape_with-answer.result.shanten = search rules in
    some_gain parts c.args.tile c.args.meld.now c.in_ok-after.ensures.can c.requires.no_kong
    (sym (c.is_nearer.ensures (distance_of parts.tiles parts.melds) (distance_of later.tiles later.melds) (omega (arith, ints, shanten_told later c.shape_with-answer.result answer_is)) (omega (arith, ints, c.requires.shanten))) ∙ c.if-is_nearer.true)
    c.in-Fourteen.discards (list_of_fourteen later c.shape_with-answer.result c.in-Fourteen.discards answer_is (fourteen_after parts c.args.tile c.args.meld.now c.in_ok-after.ensures.can c.requires.no_kong) c.in-Fourteen.is)
