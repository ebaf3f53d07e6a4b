use Rattle.std.proofs.Common.{◌≡◌, ap, ◌∙◌, pos, ◌-ℤ◌, to_z, of_z, rules, arith}
use Rattle.std.proofs.Common as width
use Rattle.std.proofs.lemmas.Bool.{ne_eqb}
use Rattle.riichi_hand.specs.Hand.{size}
use Rattle.riichi_shape.proofs.ShapeFacts.{fourteen_is}
use Rattle.riichi_shape.proofs.answering.shape_of_fourteen.Goals as goal

pub discards_by-requires-clause-distance : goal.discards_by-requires-clause-distance
discards_by-requires-clause-distance g c = c.distance-distance.ensures.value c.args.hand.now c.new-forms.ensures.forms

pub returns-clause-shape : goal.returns-clause-shape
returns-clause-shape g c =
    let same : to_z width.w8 (of_z width.w8 c.shanten_at.result) ≡ c.shanten_at.result = search rules in
    fourteen_is (record { tiles = c.args.hand.now; melds = c.args.melds.now; seen = c.args.seen.now }) (to_z width.w8 (of_z width.w8 c.shanten_at.result))
    (same ∙ c.shanten_at.ensures ∙ ap (λ n. pos n -ℤ pos 1) (c.distance-distance.ensures.value c.args.hand.now c.new-forms.ensures.forms)) c.discards_by.result
    (ne_eqb (size c.args.hand.now c.args.melds.now) 13 (λ e. omega (arith, e, c.requires.fourteen))) c.discards_by.ensures.discards
