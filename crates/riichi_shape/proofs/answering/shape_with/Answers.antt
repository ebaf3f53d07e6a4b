use Rattle.std.proofs.Common.{ap, ◌∙◌, arith}
use Rattle.riichi_hand.specs.Hand.{size}
use Rattle.riichi_tiles.specs.Melds.{tiles}
use Rattle.riichi_shape.proofs.Choices.{has_discards}
use Rattle.riichi_shape.proofs.ShapeFacts.{either_size, is_sized, melds_few, same_shape}
use Rattle.riichi_shape.proofs.answering.shape_with.Goals as goal

pub shape_of_thirteen-requires-clause-melded : goal.shape_of_thirteen-requires-clause-melded
shape_of_thirteen-requires-clause-melded g c = λ kind low. omega (arith, melds_few c.args.asked.now c.tiles-hand.ensures.shape kind low, ap (λ m. tiles m kind) c.melds-melds.ensures)

pub shape_of_fourteen-requires-clause-melded : goal.shape_of_fourteen-requires-clause-melded
shape_of_fourteen-requires-clause-melded g c = λ kind low. omega (arith, melds_few c.args.asked.now c.tiles-hand.ensures.shape kind low, ap (λ m. tiles m kind) c.melds-melds.ensures)

pub shape_of_fourteen-requires-clause-fourteen : goal.shape_of_fourteen-requires-clause-fourteen
shape_of_fourteen-requires-clause-fourteen g c =
    either_size (size c.tiles-hand.result c.melds-melds.result)
    (rw (c.tiles-hand.ensures.value, c.melds-melds.ensures) (is_sized c.args.asked.now c.tiles-hand.ensures.shape)) (λ e. c.if-total-count-eq13.false (omega (arith, e, c.total.ensures.value, c.count.ensures.value)))

pub returns-then-total-count-eq13-clause-shape : goal.returns-then-total-count-eq13-clause-shape
returns-then-total-count-eq13-clause-shape g c = c.shape_of_thirteen.ensures.shape ∙ same_shape c.args.asked.now c.tiles-hand.result c.melds-melds.result c.seen-seen.result c.tiles-hand.ensures.value c.melds-melds.ensures c.seen-seen.ensures

pub returns-else-total-count-eq13-clause-shape : goal.returns-else-total-count-eq13-clause-shape
returns-else-total-count-eq13-clause-shape g c = c.shape_of_fourteen.ensures.shape ∙ same_shape c.args.asked.now c.tiles-hand.result c.melds-melds.result c.seen-seen.result c.tiles-hand.ensures.value c.melds-melds.ensures c.seen-seen.ensures

pub returns-then-total-count-eq13-clause-discards : goal.returns-then-total-count-eq13-clause-discards
returns-then-total-count-eq13-clause-discards g c = has_discards c.args.asked.now _ (returns-then-total-count-eq13-clause-shape g c)

pub returns-else-total-count-eq13-clause-discards : goal.returns-else-total-count-eq13-clause-discards
returns-else-total-count-eq13-clause-discards g c = has_discards c.args.asked.now _ (returns-else-total-count-eq13-clause-shape g c)
