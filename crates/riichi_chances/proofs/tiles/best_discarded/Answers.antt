use Rattle.std.proofs.Common.{List, ℕ, ap, ◌∙◌, arith}
use Rattle.std.specs.Prelude.{slice_index}
use Rattle.riichi_hand.specs.Hand.{is_thirteen}
use Rattle.riichi_hand.specs.HandParts.{ShapeParts}
use Rattle.riichi_shape.specs.EveryWinning.{distance_of}
use Rattle.riichi_deeper.proofs.DrawnLemmas.{made_is, never}
use Rattle.riichi_chances.proofs.TileLemmas.{left_answer, left_as_near, left_thirteen}
use Rattle.riichi_chances.proofs.tiles.best_discarded.Goals as goal

pub remove-requires : goal.remove-requires
remove-requires c = omega (arith, c.requires.best.held, ap (λ (counts : List ℕ). slice_index counts c.args.kind) c.tiles-tiles.ensures.value)

pub unreachable-requires : goal.unreachable-requires
unreachable-requires c =
    never _ _ _ c.in-Err.is
    (left_answer c.args.drawn.now c.tiles-tiles.ensures.shape c.args.kind c.requires.best.is_kind c.tiles-tiles.result c.tiles-tiles.ensures.value c.remove.new.self c.melds-melds.result c.seen-seen.result c.remove.ensures.value c.remove.ensures.counts.each_kind c.melds-melds.ensures c.seen-seen.ensures c.requires.fourteen c.requires.best.held c.new.result c.new.ensures)

pub returns-clause-value : goal.returns-clause-value
returns-clause-value c =
    made_is _ _ _ c.in-Ok.is
    (left_answer c.args.drawn.now c.tiles-tiles.ensures.shape c.args.kind c.requires.best.is_kind c.tiles-tiles.result c.tiles-tiles.ensures.value c.remove.new.self c.melds-melds.result c.seen-seen.result c.remove.ensures.value c.remove.ensures.counts.each_kind c.melds-melds.ensures c.seen-seen.ensures c.requires.fourteen c.requires.best.held c.new.result c.new.ensures)

pub returns-clause-thirteen : goal.returns-clause-thirteen
returns-clause-thirteen c =
    ap (λ (parts : ShapeParts). is_thirteen parts.tiles parts.melds) (returns-clause-value c)
    ∙ left_thirteen c.args.drawn.now c.tiles-tiles.ensures.shape c.args.kind c.requires.best.is_kind c.tiles-tiles.result c.tiles-tiles.ensures.value c.remove.new.self c.melds-melds.result c.seen-seen.result c.remove.ensures.value c.remove.ensures.counts.each_kind c.melds-melds.ensures c.seen-seen.ensures c.requires.fourteen c.requires.best.held

pub returns-clause-as_near : goal.returns-clause-as_near
returns-clause-as_near c =
    ap (λ (parts : ShapeParts). distance_of parts.tiles parts.melds) (returns-clause-value c)
    ∙ left_as_near c.args.drawn.now c.tiles-tiles.ensures.shape c.args.kind c.requires.best.is_kind c.tiles-tiles.result c.tiles-tiles.ensures.value c.remove.new.self c.melds-melds.result c.seen-seen.result c.remove.ensures.value c.remove.ensures.counts.each_kind c.melds-melds.ensures c.seen-seen.ensures c.requires.fourteen c.requires.best.held c.requires.best c.requires.far
