use Rattle.std.proofs.Common.{sym, subst, ◌∙◌}
use Rattle.riichi_tiles.specs.Tiles.{IsCounts}
use Rattle.riichi_score.proofs.Greatest.{AreReadingsOf-from, so_far-more, next_is_reading, next_has_four_sets, best-end}
use Rattle.riichi_score.specs.Best as spec
use Rattle.riichi_score.specs.Worths.{leading_answer, score_if}
use Rattle.riichi_score.proofs.leading.leading_reading.Goals as goal

pub worth_of-worth-requires-clause-sets : goal.worth_of-worth-requires-clause-sets
worth_of-worth-requires-clause-sets c =
    let w = c.args.win.now in
    let l = c.loop-reading in
    let all = AreReadingsOf-from w c.hand_of-hand.result c.melds.result c.winning.result c.new-reading-items.result c.into_iter-reading-iterator.result c.hand_of-hand.ensures.value c.melds.ensures c.winning.ensures c.into_iter-reading-iterator.ensures.into_iter_gives c.new-reading-items.ensures.each in
    next_has_four_sets w c.into_iter-reading-iterator.result l.yielded l.reading-iterator c.next.new.self c.in-Some.reading (leading_answer l.leading.best w) all l.invariant.0 c.in-Some.ensures.steps

pub loop-reading-preserved : goal.loop-reading-preserved
loop-reading-preserved c =
    let w = c.args.win.now in
    let l = c.loop-reading in
    let all = AreReadingsOf-from w c.hand_of-hand.result c.melds.result c.winning.result c.new-reading-items.result c.into_iter-reading-iterator.result c.hand_of-hand.ensures.value c.melds.ensures c.winning.ensures c.into_iter-reading-iterator.ensures.into_iter_gives c.new-reading-items.ensures.each in
    let more = so_far-more w c.into_iter-reading-iterator.result l.yielded l.reading-iterator c.next.new.self c.in-Some.reading (leading_answer l.leading.best w) (score_if c.worth_of-worth.result w) l.invariant.0 c.in-Some.ensures.steps c.worth_of-worth.ensures.value in
    let is_reading = next_is_reading w c.into_iter-reading-iterator.result l.yielded l.reading-iterator c.next.new.self c.in-Some.reading (leading_answer l.leading.best w) all l.invariant.0 c.in-Some.ensures.steps in
    (rw (c.better-leading.ensures.value w) more, c.better-leading.ensures.most, c.better-leading.ensures.scored w is_reading c.worth_of-worth.ensures.value l.invariant.2)

pub returns : goal.returns
returns c =
    let w = c.args.win.now in
    let l = c.loop-reading in
    let all = AreReadingsOf-from w c.hand_of-hand.result c.melds.result c.winning.result c.new-reading-items.result c.into_iter-reading-iterator.result c.hand_of-hand.ensures.value c.melds.ensures c.winning.ensures c.into_iter-reading-iterator.ensures.into_iter_gives c.new-reading-items.ensures.each in
    let best = best-end w c.into_iter-reading-iterator.result l.yielded l.reading-iterator (leading_answer l.leading.best w) (subst IsCounts c.hand_of-hand.ensures.value c.hand_of-hand.ensures.counts) c.hand_of-hand.ensures.win all l.invariant.0 c.in-None.ensures.steps.0 in
    record { value = best.0; greatest = best.1; most = l.invariant.1; scored = l.invariant.2 }
