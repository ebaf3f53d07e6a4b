use Rattle.std.proofs.Common.{◌≡◌, List, [], ◌∷◌, ◌++◌, length, length-append, append_assoc, append-nil, sym, ap, subst, ◌∙◌, refl, arith}
use Rattle.std.specs.Prelude.{All, IsPermutation}
use Rattle.riichi_split.specs.declared.reading.Reading.{Reading}
use Rattle.riichi_score.specs.Scores.{score_of}
use Rattle.riichi_score.proofs.Greatest.{AreReadingsOf, AreReadingsOf-from}
use Rattle.riichi_explain.specs.declared.ranked.RankedReading.{RankedReading}
use Rattle.riichi_explain.specs.Ranked.{AreInOrder, AreRanked}
use Rattle.riichi_tiles.specs.Tiles.{IsCounts}
use Rattle.riichi_explain.proofs.BestRanked.{ranked_is_best}
use Rattle.riichi_explain.proofs.RankLemmas.{readings_in, next_four_sets, each_once-insert, scored-insert, ranked_four_sets}
use Rattle.riichi_explain.proofs.ranked.ranked_readings.Goals as goal

pub insert-requires-clause-sets : goal.insert-requires-clause-sets
insert-requires-clause-sets c =
    let w = c.args.win.now in
    let l = c.loop-reading in
    let all = AreReadingsOf-from w c.hand_of-hand.result c.melds.result c.winning.result c.new-reading-items.result c.into_iter-reading-iterator.result c.hand_of-hand.ensures.value c.melds.ensures c.winning.ensures c.into_iter-reading-iterator.ensures.into_iter_gives c.new-reading-items.ensures.each in
    next_four_sets w c.into_iter-reading-iterator.result l.yielded l.reading-iterator c.next.new.self c.in-Some.reading all l.invariant.parts c.in-Some.ensures.steps

pub insert-requires-clause-room : goal.insert-requires-clause-room
insert-requires-clause-room c =
    let l = c.loop-reading in
    let all = ap (λ (readings : List Reading). length readings) c.into_iter-reading-iterator.ensures.into_iter_gives in
    let parts = ap (λ (readings : List Reading). length readings) (l.invariant.parts ∙ ap (λ x. l.yielded ++ x) c.in-Some.ensures.steps) in
    omega (arith, all, parts, length-append l.yielded (c.in-Some.reading ∷ c.next.new.self), c.new-reading-items.ensures.few, l.invariant.many)

pub loop-reading-preserved : goal.loop-reading-preserved
loop-reading-preserved c =
    let w = c.args.win.now in
    let l = c.loop-reading in
    let so_far = l.invariant in
    let put = c.insert.ensures.items in
    let one : RankedReading = record { reading = c.in-Some.reading; score = score_of c.in-Some.reading w } in
    record {
      parts = so_far.parts ∙ ap (λ x. l.yielded ++ x) c.in-Some.ensures.steps ∙ sym (append_assoc l.yielded (c.in-Some.reading ∷ []) c.next.new.self);
      many = omega (arith, c.insert.ensures.len, so_far.many, length-append l.yielded (c.in-Some.reading ∷ []));
      each_once = subst (λ (ranked : List RankedReading). IsPermutation (l.yielded ++ c.in-Some.reading ∷ []) (readings_in ranked)) (sym put.1)
          (each_once-insert l.yielded l.ranked.items put.0 one so_far.each_once);
      scored = subst (λ (ranked : List RankedReading). All (λ one. one.score ≡ score_of one.reading w) ranked) (sym put.1) (scored-insert w l.ranked.items put.0 one refl so_far.scored);
      in_order = c.insert.ensures.in_order;
    }

pub returns-clause-ranked : goal.returns-clause-ranked
returns-clause-ranked c =
    let w = c.args.win.now in
    let l = c.loop-reading in
    let all = c.into_iter-reading-iterator.result in
    let ended : l.yielded ≡ all = sym (l.invariant.parts ∙ ap (λ x. l.yielded ++ x) c.in-None.ensures.steps.0 ∙ append-nil l.yielded) in
    record {
      readings = all;
      are_all = AreReadingsOf-from w c.hand_of-hand.result c.melds.result c.winning.result c.new-reading-items.result all c.hand_of-hand.ensures.value c.melds.ensures c.winning.ensures c.into_iter-reading-iterator.ensures.into_iter_gives c.new-reading-items.ensures.each;
      each_once = subst (λ (readings : List Reading). IsPermutation readings (readings_in l.ranked.items)) ended l.invariant.each_once;
      scored = l.invariant.scored;
      in_order = l.invariant.in_order;
    }

pub returns-clause-sets : goal.returns-clause-sets
returns-clause-sets c = ranked_four_sets c.args.win.now c.loop-reading.ranked.items (returns-clause-ranked c)

pub returns-clause-best : goal.returns-clause-best
returns-clause-best c =
    let counts = subst IsCounts c.hand_of-hand.ensures.value c.hand_of-hand.ensures.counts in
    (ranked_is_best c.args.win.now c.loop-reading.ranked.items counts c.hand_of-hand.ensures.win (returns-clause-ranked c)).0

pub returns-clause-greatest : goal.returns-clause-greatest
returns-clause-greatest c =
    let counts = subst IsCounts c.hand_of-hand.ensures.value c.hand_of-hand.ensures.counts in
    (ranked_is_best c.args.win.now c.loop-reading.ranked.items counts c.hand_of-hand.ensures.win (returns-clause-ranked c)).1
