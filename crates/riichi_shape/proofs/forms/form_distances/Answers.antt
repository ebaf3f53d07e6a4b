use Rattle.std.proofs.Common.{ℕ, ◌-◌, length, Option, Some, None, sym, subst, ap, ◌∙◌, arith}
use Rattle.riichi_shape.specs.Distance.{IsLeastStandard}
use Rattle.riichi_shape.specs.Forms.{IsPairsDistance, IsOrphansDistance, without_meld, min_with}
use Rattle.riichi_shape.proofs.Distances.{never_none, least_beside}
use Rattle.riichi_shape.proofs.FormLemmas.{pairs_distance, orphans_distance, least_form}
use Rattle.riichi_shape.proofs.KeptJoins.{least_by_forms}
use Rattle.riichi_shape.proofs.forms.form_distances.Goals as goal

pub unreachable-requires : goal.unreachable-requires
unreachable-requires g c =
    let hand = c.args.hand.now in
    let melds = c.args.melds.now in
    let sets = 4 - c.count-melded.result in
    let least = least_by_forms hand melds c.new-forms.result c.new-forms.ensures.forms c.requires sets (omega arith) c.with.result c.with.ensures in
    let none = subst (λ (o : Option ℕ). IsLeastStandard hand melds sets o) c.in_default.is least in
    never_none hand melds c.count-melded.ensures.melds.at_most_four c.requires (least_beside hand melds c.count-melded.result None c.count-melded.ensures.value none)

pub returns-clause-sets_and_pair : goal.returns-clause-sets_and_pair
returns-clause-sets_and_pair g c =
    let hand = c.args.hand.now in
    let melds = c.args.melds.now in
    let sets = 4 - c.count-melded.result in
    let least = least_by_forms hand melds c.new-forms.result c.new-forms.ensures.forms c.requires sets (omega arith) c.with.result c.with.ensures in
    let some = subst (λ (o : Option ℕ). IsLeastStandard hand melds sets o) c.in-Some.is least in
    least_beside hand melds c.count-melded.result (Some c.in-Some.sets_and_pair) c.count-melded.ensures.value some

pub returns-clause-seven_pairs : goal.returns-clause-seven_pairs
returns-clause-seven_pairs g c =
    let forms = c.new-forms.result.special in
    let same = c.without_meld.ensures ∙ ap (λ (n : ℕ). without_meld n forms.pairs.lack) c.count-melded.ensures.value in
    subst (λ (o : Option ℕ). IsPairsDistance c.args.hand.now c.args.melds.now o) (sym same) (pairs_distance c.args.hand.now c.args.melds.now forms c.new-forms.ensures.forms.special)

pub returns-clause-thirteen_orphans : goal.returns-clause-thirteen_orphans
returns-clause-thirteen_orphans g c =
    let forms = c.new-forms.result.special in
    let same = c.without_meld-2.ensures ∙ ap (λ (n : ℕ). without_meld n forms.orphans.lack) c.count-melded.ensures.value in
    subst (λ (o : Option ℕ). IsOrphansDistance c.args.hand.now c.args.melds.now o) (sym same) (orphans_distance c.args.hand.now c.args.melds.now forms c.new-forms.ensures.forms.special)

pub returns-clause-least : goal.returns-clause-least
returns-clause-least g c =
    let hand = c.args.hand.now in
    let melds = c.args.melds.now in
    let forms = c.new-forms.result.special in
    let n = c.in-Some.sets_and_pair in
    let pairs = c.without_meld.ensures ∙ ap (λ (k : ℕ). without_meld k forms.pairs.lack) c.count-melded.ensures.value in
    let orphans = c.without_meld-2.ensures ∙ ap (λ (k : ℕ). without_meld k forms.orphans.lack) c.count-melded.ensures.value in
    ap (λ (o : Option ℕ). min_with (min_with n o) c.without_meld-2.result) pairs
    ∙ ap (λ (o : Option ℕ). min_with (min_with n (without_meld (length melds) forms.pairs.lack)) o) orphans
    ∙ least_form hand melds c.count-melded.ensures.melds.at_most_four c.requires forms n (returns-clause-sets_and_pair g c) c.new-forms.ensures.forms.special
