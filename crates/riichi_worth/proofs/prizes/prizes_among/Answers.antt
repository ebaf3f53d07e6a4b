use Rattle.std.proofs.Common.{◌≡◌, ◌+◌, ◌*◌, ◌<◌, ◌≤◌, sym, ap, ◌∙◌, arith}
use Rattle.std.specs.Prelude.{slice_index, sum_by}
use Rattle.riichi_shape.specs.LiveCopies.{pairs_of}
use Rattle.riichi_chances.proofs.BoundLemmas.{times_few}
use Rattle.riichi_deeper.proofs.DeeperLemmas.{rest_all, rest_end, rest_none, rest_of, rest_some}
use Rattle.riichi_worth.specs.CountedPoints.{prize_times, prizes_of}
use Rattle.riichi_worth.specs.Prizes.{prize_of}
use Rattle.riichi_worth.proofs.prizes.prizes_among.Goals as goal
use Rattle.riichi_worth.proofs.prizes.prizes_among.Goals.{then-live-gt0, else-live-gt0}

pub loop-number-init : goal.loop-number-init
unfolding prizes_of
loop-number-init c =
    let by = prize_times c.args.stakes.now c.args.hand.now in
    let told : sum_by (prize_times c.args.stakes.now c.args.hand.now) (pairs_of c.copies-copies.result.now) ≡ prizes_of c.args.stakes.now c.args.hand.now =
    ap (sum_by by) (sym c.copies-copies.ensures.value ∙ c.requires.accepted) in
    record { so_far = omega (arith, rest_all by c.copies-copies.result.now, told); few = omega arith }

pub loop-number-preserved : goal.loop-number-preserved
loop-number-preserved c =
    let by = prize_times c.args.stakes.now c.args.hand.now in
    let copies = c.copies-copies.result.now in
    let number = c.loop-number.number in
    let so_far = c.loop-number.invariant in
    elim c.if-live-gt0.branch [
      | then-live-gt0 w ↦ (
          let prize : w.from-then-live-gt0.result ≡ prize_of c.args.stakes.now c.args.hand.now.tiles c.args.hand.now.melds c.loop-number.number =
          w.from-then-live-gt0.ensures ∙ w.prize.ensures.value ∙ ap (prize_of c.args.stakes.now c.args.hand.now.tiles c.args.hand.now.melds) w.at.ensures in
          let live : w.from.result ≡ slice_index c.copies-copies.result.now c.loop-number.number = w.from.ensures in
          let some = rest_some by copies number c.loop-number-test.true w.if-live-gt0.true in
          record {
            so_far = omega (arith, w.sum-is, so_far.so_far, some, ap (λ n. w.from.result * n) prize, ap (λ n. n * prize_of c.args.stakes.now c.args.hand.now.tiles c.args.hand.now.melds number) live);
            few = omega (arith, w.sum-is, so_far.few, times_few w.from.result 4 w.from-then-live-gt0.result 5000000 (omega (arith, live, c.copies-copies.ensures.most number)) (omega (arith, w.from-then-live-gt0.ensures, w.prize.ensures.most)));
          })
      | else-live-gt0 w ↦ record {
        so_far = omega (arith, w.sum-is, so_far.so_far, rest_none by copies number c.loop-number-test.true w.if-live-gt0.false);
        few = omega (arith, w.sum-is, so_far.few);
      }
    ]

pub returns-clause-value : goal.returns-clause-value
returns-clause-value c =
    omega (arith, c.loop-number.invariant.so_far, rest_end (prize_times c.args.stakes.now c.args.hand.now) c.copies-copies.result.now c.loop-number.number (omega (arith, c.loop-number-test.false, c.loop-number.auto.number-end)))
