use Rattle.std.proofs.Common.{◌<◌, ap, ◌∙◌, arith}
use Rattle.riichi_hand.specs.Hand.{size}
use Rattle.riichi_hand.specs.HandParts.{ShapeParts}
use Rattle.riichi_deeper.proofs.DrawnLemmas.{drawn_answer, drawn_size, made_is, never}
use Rattle.riichi_deeper.proofs.drawn.with_tile.Goals as goal

pub unreachable-requires : goal.unreachable-requires
unreachable-requires c =
    let inside : c.args.kind < 34 = omega arith in
    never _ _ _ c.in-Err.is
    (drawn_answer c.args.asked.now c.tiles-tiles.ensures.shape c.args.kind inside c.tiles-tiles.result c.tiles-tiles.ensures.value c.add.new.self c.melds-melds.result c.seen-seen.result c.add.ensures.value c.add.ensures.counts.each_kind c.melds-melds.ensures c.seen-seen.ensures c.requires.thirteen c.requires.left c.new.result c.new.ensures)

pub returns-clause-value : goal.returns-clause-value
returns-clause-value c =
    let inside : c.args.kind < 34 = omega arith in
    made_is _ _ _ c.in-Ok.is
    (drawn_answer c.args.asked.now c.tiles-tiles.ensures.shape c.args.kind inside c.tiles-tiles.result c.tiles-tiles.ensures.value c.add.new.self c.melds-melds.result c.seen-seen.result c.add.ensures.value c.add.ensures.counts.each_kind c.melds-melds.ensures c.seen-seen.ensures c.requires.thirteen c.requires.left c.new.result c.new.ensures)

pub returns-clause-fourteen : goal.returns-clause-fourteen
returns-clause-fourteen c =
    let inside : c.args.kind < 34 = omega arith in
    ap (λ (parts : ShapeParts). size parts.tiles parts.melds) (returns-clause-value c)
    ∙ drawn_size c.args.asked.now c.tiles-tiles.ensures.shape c.args.kind inside c.tiles-tiles.result c.tiles-tiles.ensures.value c.add.new.self c.melds-melds.result c.seen-seen.result c.add.ensures.value c.add.ensures.counts.each_kind c.melds-melds.ensures c.seen-seen.ensures c.requires.thirteen c.requires.left
