use Rattle.std.proofs.Common.{length-set, ◌∙◌, arith}
use Rattle.riichi_chances.proofs.ChancesLemmas.{stay_next, told_next}
use Rattle.riichi_chances.proofs.chances.tell_each.Goals as goal

pub loop-at-preserved : goal.loop-at-preserved
loop-at-preserved c =
    let so_far = c.loop-at.invariant in
    let at = c.loop-at.at in
    record {
      each = length-set c.loop-at.each at c.tell.new.self ∙ so_far.each;
      told = told_next c.args.turns c.args.all c.args.rows.now c.args.places.now c.args.each.now c.loop-at.each at c.tell.new.self c.index-rows-places.result _ (omega (arith, so_far.each, c.requires.each, c.loop-at-test.true)) (c.requires.inside at (omega (arith, c.loop-at-test.true))) c.index-rows-places.is c.tell.ensures so_far.later so_far.told;
      later = stay_next c.args.turns c.args.all c.args.rows.now c.args.places.now c.args.each.now c.loop-at.each at c.tell.new.self c.index-rows-places.result _ (omega (arith, so_far.each, c.requires.each, c.loop-at-test.true)) (c.requires.inside at (omega (arith, c.loop-at-test.true))) c.index-rows-places.is c.tell.ensures so_far.later;
    }
