use Rattle.std.proofs.Common.{◌≡◌, FitsSigned, IfOk, List, length, map, rules, sym, ap, subst, ◌∙◌, arith}
use Rattle.std.proofs.Common as width
use Rattle.std.proofs.lemmas.Bool.{leb-false}
use Rattle.std.proofs.lemmas.Int.{ints}
use Rattle.riichi_shape.specs.EveryWinning.{distance_of}
use Rattle.riichi_shape.specs.declared.discard.Discard.{Discard}
use Rattle.riichi_deeper.proofs.DrawnLemmas.{list_of_fourteen, never_thirteen, shanten_told}
use Rattle.riichi_chances.specs.Graph.{discard_kinds, most_hands_in}
use Rattle.riichi_chances.proofs.ReachableLemmas.{few_by_one, few_in_all, many_by_one, many_in_all, on_ok_as, on_err_as}
use Rattle.riichi_worth.specs.Worths.{best_worths, worth_after}
use Rattle.riichi_worth.proofs.discards.discard_worths.Goals as goal

pub each_alone-requires-clause-discards : goal.each_alone-requires-clause-discards
each_alone-requires-clause-discards g c = list_of_fourteen c.args.asked.now c.shape_with-answer.result c.in-Fourteen.discards c.shape_with-answer.ensures.shape c.requires.fourteen c.in-Fourteen.is

pub all_together-requires-clause-far : goal.all_together-requires-clause-far
all_together-requires-clause-far g c =
    let parts = c.args.asked.now in
    let fits : FitsSigned width.w8 c.shape_with-answer.result.shanten = search rules in
    let far = sym (c.is_won.ensures (distance_of parts.tiles parts.melds) (omega (arith, ints, shanten_told parts c.shape_with-answer.result c.shape_with-answer.ensures.shape))) ∙ c.if-is_won.false in
    omega (arith, leb-false (distance_of parts.tiles parts.melds) 0 far)

pub all_together-requires-clause-discards : goal.all_together-requires-clause-discards
all_together-requires-clause-discards g c = list_of_fourteen c.args.asked.now c.shape_with-answer.result c.in-Fourteen.discards c.shape_with-answer.ensures.shape c.requires.fourteen c.in-Fourteen.is

pub unreachable-requires : goal.unreachable-requires
unreachable-requires g c = never_thirteen c.args.asked.now c.shape_with-answer.result c.in-Thirteen.field-0 c.shape_with-answer.ensures.shape c.requires.fourteen c.in-Thirteen.is

pub returns-then-is_won-clause-worths : goal.returns-then-is_won-clause-worths
unfolding best_worths
returns-then-is_won-clause-worths g c =
    subst (λ (discards : List Discard). IfOk c.each_alone.result (λ each. each.items ≡ map (worth_after c.args.stakes.now c.args.asked.now c.args.turns) (discard_kinds discards))) (list_of_fourteen c.args.asked.now c.shape_with-answer.result c.in-Fourteen.discards c.shape_with-answer.ensures.shape c.requires.fourteen c.in-Fourteen.is) c.each_alone.ensures.worths

pub returns-else-is_won-clause-worths : goal.returns-else-is_won-clause-worths
unfolding best_worths
returns-else-is_won-clause-worths g c =
    subst (λ (discards : List Discard). IfOk c.all_together.result (λ each. each.items ≡ map (worth_after c.args.stakes.now c.args.asked.now c.args.turns) (discard_kinds discards))) (list_of_fourteen c.args.asked.now c.shape_with-answer.result c.in-Fourteen.discards c.shape_with-answer.ensures.shape c.requires.fourteen c.in-Fourteen.is) c.all_together.ensures.worths

pub returns-then-is_won-clause-few : goal.returns-then-is_won-clause-few
returns-then-is_won-clause-few g c =
    let fits : FitsSigned width.w8 c.shape_with-answer.result.shanten = search rules in
    on_ok_as c.each_alone.result (few_by_one c.args.asked.now c.in-Fourteen.discards (list_of_fourteen c.args.asked.now c.shape_with-answer.result c.in-Fourteen.discards c.shape_with-answer.ensures.shape c.requires.fourteen c.in-Fourteen.is) (most_hands_in (length c.args.places.now) (length c.args.rows.now)) (sym (c.is_won.ensures (distance_of c.args.asked.now.tiles c.args.asked.now.melds) (omega (arith, ints, shanten_told c.args.asked.now c.shape_with-answer.result c.shape_with-answer.ensures.shape))) ∙ c.if-is_won.true)) c.each_alone.ensures.few

pub returns-then-is_won-clause-many : goal.returns-then-is_won-clause-many
returns-then-is_won-clause-many g c =
    let fits : FitsSigned width.w8 c.shape_with-answer.result.shanten = search rules in
    on_err_as c.each_alone.result (many_by_one c.args.asked.now c.in-Fourteen.discards (list_of_fourteen c.args.asked.now c.shape_with-answer.result c.in-Fourteen.discards c.shape_with-answer.ensures.shape c.requires.fourteen c.in-Fourteen.is) (most_hands_in (length c.args.places.now) (length c.args.rows.now)) (sym (c.is_won.ensures (distance_of c.args.asked.now.tiles c.args.asked.now.melds) (omega (arith, ints, shanten_told c.args.asked.now c.shape_with-answer.result c.shape_with-answer.ensures.shape))) ∙ c.if-is_won.true)) c.each_alone.ensures.many

pub returns-else-is_won-clause-few : goal.returns-else-is_won-clause-few
returns-else-is_won-clause-few g c =
    let fits : FitsSigned width.w8 c.shape_with-answer.result.shanten = search rules in
    on_ok_as c.all_together.result (few_in_all c.args.asked.now c.in-Fourteen.discards (list_of_fourteen c.args.asked.now c.shape_with-answer.result c.in-Fourteen.discards c.shape_with-answer.ensures.shape c.requires.fourteen c.in-Fourteen.is) (most_hands_in (length c.args.places.now) (length c.args.rows.now)) (sym (c.is_won.ensures (distance_of c.args.asked.now.tiles c.args.asked.now.melds) (omega (arith, ints, shanten_told c.args.asked.now c.shape_with-answer.result c.shape_with-answer.ensures.shape))) ∙ c.if-is_won.false)) c.all_together.ensures.few

pub returns-else-is_won-clause-many : goal.returns-else-is_won-clause-many
returns-else-is_won-clause-many g c =
    let fits : FitsSigned width.w8 c.shape_with-answer.result.shanten = search rules in
    on_err_as c.all_together.result (many_in_all c.args.asked.now c.in-Fourteen.discards (list_of_fourteen c.args.asked.now c.shape_with-answer.result c.in-Fourteen.discards c.shape_with-answer.ensures.shape c.requires.fourteen c.in-Fourteen.is) (most_hands_in (length c.args.places.now) (length c.args.rows.now)) (sym (c.is_won.ensures (distance_of c.args.asked.now.tiles c.args.asked.now.melds) (omega (arith, ints, shanten_told c.args.asked.now c.shape_with-answer.result c.shape_with-answer.ensures.shape))) ∙ c.if-is_won.false)) c.all_together.ensures.many
