use Rattle.std.proofs.Common.{◌≡◌, ◌<◌, ◌-◌, length, map, refl, sym, ap, subst, ◌∙◌, arith}
use Rattle.std.specs.Prelude.{slice_index}
use Rattle.riichi_shape.specs.Discards.{distance_without}
use Rattle.riichi_shape.specs.KeptDiscards.{AreKept, told}
use Rattle.riichi_shape.proofs.DiscardLemmas.{put_length}
use Rattle.riichi_shape.proofs.KeptLemmas.{all_put, told_put}
use Rattle.riichi_shape.proofs.LeastLeft.{least_is}
use Rattle.riichi_shape.proofs.RemovalLemmas.{discards_all, discards_from, discards_none, left_few, left_unheld, left_worse, put_few, put_list, still_room}
use Rattle.riichi_shape.proofs.removal.discards_by.Goals as goal

pub loop-number-init : goal.loop-number-init
loop-number-init g c = record {
  stays = refl;
  so_far = ap (map (told c.live_copies-live.result.copies)) c.new-order.ensures ∙ sym (discards_none c.args.hand.now c.args.melds.now c.args.seen.now 34);
  kept = subst (AreKept c.live_copies-live.result.copies) (sym c.new-order.ensures) tt;
  few = omega (arith, ap length c.new-order.ensures);
}

pub insert-requires : goal.insert-requires
insert-requires g c =
    let hand = c.args.hand.now in
    let held : 0 < slice_index hand (c.loop-number.number - 1) = omega (arith, c.if-get-gt0.true, c.get.ensures.value, ap (slice_index hand) c.at-kind.ensures) in
    still_room hand c.args.melds.now c.args.seen.now c.loop-number.number c.loop-number-test.true c.loop-number.auto.number (length c.loop-number.order) c.get.ensures.counts.each_kind
    (omega (arith, c.requires.fourteen)) held c.loop-number.invariant.few

pub loop-number-preserved-in-Some : goal.loop-number-preserved-in-Some
loop-number-preserved-in-Some g c =
    let hand = c.args.hand.now in
    let melds = c.args.melds.now in
    let copies = c.live_copies-live.result.copies in
    let order = c.loop-number.order in
    let kept = c.in-Some.kept in
    let told_is = c.in-Some.ensures.kept in
    let held : 0 < slice_index hand c.at-kind.result = omega (arith, c.if-get-gt0.true, c.get.ensures.value) in
    let there : 0 < slice_index hand (c.loop-number.number - 1) = omega (arith, held, ap (slice_index hand) c.at-kind.ensures) in
    record {
      stays = c.discard_of.ensures.stays ∙ c.loop-number.invariant.stays;
      so_far = put_list hand melds c.args.seen.now c.loop-number.number c.loop-number-test.true c.loop-number.auto.number
          c.max-least.result (least_is hand melds c.get.ensures.counts.each_kind c.requires.fourteen c.requires.melded c.args.distance c.max-least.result c.requires.distance c.max-least.ensures)
          (map (told copies) order) c.loop-number.invariant.so_far (map (told copies) c.insert.new.self) (told copies kept) c.at-kind.result c.at-kind.ensures
          (told_is.1 c.args.seen.now c.live_copies-live.ensures) held (sym (ap (distance_without hand melds) c.at-kind.ensures) ∙ told_is.0)
          (ap (map (told copies)) c.insert.ensures ∙ told_put copies kept told_is.2 order c.loop-number.invariant.kept);
      kept = subst (AreKept copies) (sym c.insert.ensures) (all_put copies kept told_is.2 order c.loop-number.invariant.kept);
      few = omega (arith, ap length c.insert.ensures, put_length kept order, put_few hand melds c.args.seen.now c.loop-number.number c.loop-number-test.true c.loop-number.auto.number (length order) c.loop-number.invariant.few there);
    }

pub loop-number-preserved-in_default : goal.loop-number-preserved-in_default
loop-number-preserved-in_default g c =
    let hand = c.args.hand.now in
    let melds = c.args.melds.now in
    record {
      stays = c.discard_of.ensures.stays ∙ c.loop-number.invariant.stays;
      so_far = left_worse hand melds c.args.seen.now c.loop-number.number c.loop-number-test.true c.loop-number.auto.number
          c.max-least.result (least_is hand melds c.get.ensures.counts.each_kind c.requires.fourteen c.requires.melded c.args.distance c.max-least.result c.requires.distance c.max-least.ensures)
          (map (told c.live_copies-live.result.copies) c.loop-number.order) c.loop-number.invariant.so_far
          (omega (arith, c.if-get-gt0.true, c.get.ensures.value, ap (slice_index hand) c.at-kind.ensures)) (λ e. c.in_default.ensures.kept (ap (distance_without hand melds) c.at-kind.ensures ∙ e));
      kept = c.loop-number.invariant.kept;
      few = left_few hand melds c.args.seen.now c.loop-number.number c.loop-number-test.true c.loop-number.auto.number (length c.loop-number.order) c.loop-number.invariant.few;
    }

pub loop-number-preserved : goal.loop-number-preserved
loop-number-preserved g c =
    let hand = c.args.hand.now in
    let melds = c.args.melds.now in
    record {
      stays = c.loop-number.invariant.stays;
      so_far = left_unheld hand melds c.args.seen.now c.loop-number.number c.loop-number-test.true c.loop-number.auto.number
          c.max-least.result (least_is hand melds c.get.ensures.counts.each_kind c.requires.fourteen c.requires.melded c.args.distance c.max-least.result c.requires.distance c.max-least.ensures)
          (map (told c.live_copies-live.result.copies) c.loop-number.order) c.loop-number.invariant.so_far
          (omega (arith, c.if-get-gt0.false, c.get.ensures.value, ap (slice_index hand) c.at-kind.ensures));
      kept = c.loop-number.invariant.kept;
      few = left_few hand melds c.args.seen.now c.loop-number.number c.loop-number-test.true c.loop-number.auto.number (length c.loop-number.order) c.loop-number.invariant.few;
    }

pub returns-clause-discards : goal.returns-clause-discards
returns-clause-discards g c =
    let at_first : c.loop-number.number ≡ 0 = omega arith in
    c.new.ensures ∙ c.loop-number.invariant.so_far ∙ ap (λ k. discards_from c.args.hand.now c.args.melds.now c.args.seen.now k (34 - k)) at_first ∙ discards_all c.args.hand.now c.args.melds.now c.args.seen.now
