use Rattle.std.proofs.Common.{◌<◌, List, length, refl, rules, sym, ap, subst, ◌∙◌, arith}
use Rattle.std.proofs.lemmas.List.{get_or-replicate, get_or_default}
use Rattle.std.specs.Prelude.{slice_index, slice_index_or}
use Rattle.riichi_chances.specs.Chances.{AreLong}
use Rattle.riichi_chances.specs.Graph.{placed_hand}
use Rattle.riichi_chances.specs.declared.chances.Chances.{Chances}
use Rattle.riichi_chances.proofs.ChancesLemmas.{counted_all, long_next, none_below, turns_next}
use Rattle.riichi_chances.proofs.chances.by_turns.Goals as goal

pub loop-count-init : goal.loop-count-init
loop-count-init c = record {
  rows = refl;
  each = c.fill.ensures.len ∙ c.requires.each;
  long = λ at chances low. subst AreLong (sym (ap (λ (each : List Chances). slice_index_or each at chances) (c.fill.ensures.after (λ y e. e)) ∙ get_or-replicate (length c.args.each.now) at c.none.result chances (omega (arith, low, c.requires.each)))) c.none.ensures;
  told = λ root is at chances low. none_below (placed_hand root c.args.graph.now.hands (slice_index c.args.places.now at)) c.args.unseen _;
}

pub loop-count-preserved : goal.loop-count-preserved
loop-count-preserved c =
    let so_far = c.loop-count.invariant in
    let count = c.loop-count.count in
    let places = c.args.places.now in
    let before = c.loop-count.each in
    let new = c.tell_each.new.each in
    let rows = c.put_rows.new.rows in
    let number = c.number-all.result in
    let number_is = c.number-all.ensures ∙ get_or_default c.all_draws.result count _ 0 (search rules) in
    let small : c.loop-count.count < 19 = omega (arith, c.loop-count-test.true, c.requires.turns) in
    record {
      rows = c.put_rows.ensures.each ∙ so_far.rows;
      each = c.tell_each.ensures.each ∙ so_far.each;
      long = long_next places c.args.unseen count before new rows number small c.tell_each.ensures.told so_far.long;
      told = λ root is.
          turns_next places c.args.unseen count before new rows number small c.tell_each.ensures.told so_far.long root c.args.graph.now.hands _ c.requires.inside (c.put_rows.ensures.are root is) (number_is ∙ c.all_draws.ensures count (omega arith)) (so_far.told root is);
    }

pub returns-clause-counted : goal.returns-clause-counted
returns-clause-counted c = λ root is at chances low.
    counted_all (placed_hand root c.args.graph.now.hands (slice_index c.args.places.now at)) c.args.unseen c.args.turns c.loop-count.count (slice_index_or c.loop-count.each at chances) (omega (arith, c.loop-count-test.false)) (c.loop-count.invariant.told root is at chances low)
