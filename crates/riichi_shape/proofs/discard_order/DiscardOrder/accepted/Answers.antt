use Rattle.std.proofs.Common.{ap, ◌∙◌, sym, take, arith}
use Rattle.std.proofs.lemmas.List.Folds.{list_any_more}
use Rattle.std.specs.List.{list_any}
use Rattle.std.specs.Prelude.{◌||◌}
use Rattle.riichi_shape.specs.KeptDiscards.{accepted_kinds}
use Rattle.riichi_tiles.specs.HeldKinds.{is_held}
use Rattle.riichi_tiles.proofs.KindSets.{either_at}
use Rattle.riichi_shape.proofs.discard_order.DiscardOrder.accepted.Goals as goal

pub loop-place-preserved : goal.loop-place-preserved
loop-place-preserved c = λ kind.
    (let places = c.self.inside.places in
    let place = c.loop-place.place in
    let other = c.index-self-place.result in
    ap (λ s. is_held s kind) c.either-kinds.ensures ∙ either_at c.loop-place.kinds c.accepted.result kind ∙ ap (λ t. t || is_held c.accepted.result kind) (c.loop-place.invariant kind)
    ∙ ap (λ s. list_any (λ kept. is_held (accepted_kinds kept) kind) (take place places) || is_held s kind) c.accepted.ensures
    ∙ sym (list_any_more (λ kept. is_held (accepted_kinds kept) kind) places place other (omega (arith, c.self.invariant.long, c.self.invariant.few, c.loop-place-test.true))))
