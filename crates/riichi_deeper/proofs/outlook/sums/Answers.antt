use Rattle.std.proofs.Common.{◌<◌, ap, sym, refl, ◌∙◌, arith}
use Rattle.std.specs.Prelude.{slice_index}
use Rattle.riichi_hand.specs.Hand.{copies_with}
use Rattle.riichi_deeper.proofs.DeeperLemmas.{accepted_left, good_all, good_end, good_more, good_same, left_told, product_few, second_all, second_end, second_more, second_same}
use Rattle.riichi_deeper.proofs.outlook.sums.Goals as goal
use Rattle.riichi_deeper.proofs.outlook.sums.Goals.{then-live-gt0, else-live-gt0}

pub loop-number-init : goal.loop-number-init
loop-number-init g c = record {
  stays = refl;
  second = second_all c.args.asked.now c.copies-copies.result.now c.args.accepted.now c.copies-copies.ensures.value c.requires.accepted;
  good = good_all c.args.asked.now c.copies-copies.result.now c.args.accepted.now c.copies-copies.ensures.value c.requires.accepted;
  second_few = omega arith;
  good_few = omega arith;
}

pub with_tile-requires-clause-left : goal.with_tile-requires-clause-left
with_tile-requires-clause-left g c =
    let low : c.loop-number.number < 34 = omega arith in
    omega (arith, accepted_left c.args.asked.now c.copies-copies.result.now c.loop-number.number (sym c.copies-copies.ensures.value ∙ c.requires.accepted) low c.if-live-gt0.true, ap (copies_with c.args.asked.now) c.at.ensures)

pub overflow_add-second : goal.overflow_add-second
overflow_add-second g c = omega (arith, c.loop-number.invariant.second_few, product_few (slice_index c.copies-copies.result.now c.loop-number.number) c.best_left-left.result (c.copies-copies.ensures.most c.loop-number.number) (omega arith))

pub overflow_add-good : goal.overflow_add-good
overflow_add-good g c = omega (arith, c.loop-number.invariant.good_few, c.good_copies-good.ensures.few, c.copies-copies.ensures.most c.loop-number.number)

pub loop-number-preserved : goal.loop-number-preserved
loop-number-preserved g c =
    let so_far = c.loop-number.invariant in
    let number = c.loop-number.number in
    let low : c.loop-number.number < 34 = omega arith in
    let parts = c.args.asked.now in
    let copies = c.copies-copies.result.now in
    elim c.if-live-gt0.branch [
      | then-live-gt0 w ↦ record {
        stays = ap (λ s. s) w.source-is ∙ w.best_left-left.ensures.stays ∙ so_far.stays;
        second = second_more parts copies number low c.loop-number.second c.if-live-gt0.second w.best_left-left.result w.if-live-gt0.true (left_told parts copies number low w.with_tile.result w.at.result w.best_left-left.result w.at.ensures w.with_tile.ensures.value w.best_left-left.ensures.value) w.second-is so_far.second;
        good = good_more parts copies number low c.loop-number.good c.if-live-gt0.good w.best_left-left.result w.good_copies-good.result w.if-live-gt0.true (left_told parts copies number low w.with_tile.result w.at.result w.best_left-left.result w.at.ensures w.with_tile.ensures.value w.best_left-left.ensures.value) w.good_copies-good.ensures.value w.good-is so_far.good;
        second_few = omega (arith, w.second-is, so_far.second_few, product_few (slice_index copies number) w.best_left-left.result (c.copies-copies.ensures.most number) (omega arith));
        good_few = omega (arith, w.good-is, w.good_copies-good.ensures.few, so_far.good_few, c.copies-copies.ensures.most number);
      }
      | else-live-gt0 w ↦ record {
        stays = w.source-is ∙ so_far.stays;
        second = omega (arith, w.second-is, second_same parts copies number low c.loop-number.second w.if-live-gt0.false so_far.second);
        good = omega (arith, w.good-is, good_same parts copies number low c.loop-number.good w.if-live-gt0.false so_far.good);
        second_few = omega (arith, w.second-is, so_far.second_few);
        good_few = omega (arith, w.good-is, so_far.good_few);
      }
    ]

pub returns-clause-second : goal.returns-clause-second
returns-clause-second g c = second_end c.args.asked.now c.copies-copies.result.now c.loop-number.number c.loop-number.second (omega arith) c.loop-number.invariant.second

pub returns-clause-good : goal.returns-clause-good
returns-clause-good g c = good_end c.args.asked.now c.copies-copies.result.now c.loop-number.number c.loop-number.good (omega arith) c.loop-number.invariant.good
