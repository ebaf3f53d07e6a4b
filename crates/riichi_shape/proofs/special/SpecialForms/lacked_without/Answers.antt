use Rattle.std.proofs.Common.{length, refl, sym, ap, ◌∙◌}
use Rattle.std.specs.Prelude.{slice_index}
use Rattle.riichi_shape.specs.Accepted.{without_one}
use Rattle.riichi_shape.proofs.OneMore.{special_without}
use Rattle.riichi_shape.proofs.SpecialLemmas.{none_lacked, nothing_lacked}
use Rattle.riichi_shape.proofs.special.SpecialForms.lacked_without.Goals as goal

pub returns-then-distance-least : goal.returns-then-distance-least
returns-then-distance-least c =
    let hand = c.args.hand.now in
    let melds = c.args.melds.now in
    let kind = c.args.kind in
    let bound = (c.distance.ensures hand melds c.requires.forms).none_less in
    none_lacked (without_one hand kind) melds c.distance.result c.args.least (special_without hand (without_one hand kind) melds kind c.distance.result (ap length (sym c.remove.ensures.value) ∙ c.remove.ensures.counts.each_kind) c.requires.held refl bound)
    c.if-distance-least.true _ (λ k. nothing_lacked k (slice_index (without_one hand kind) k))
