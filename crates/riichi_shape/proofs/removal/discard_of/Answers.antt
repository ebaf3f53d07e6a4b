use Rattle.std.proofs.Common.{◌≡◌, ◌-◌, subst, sym, ap, ◌∙◌, List, ℕ, length, length-set}
use Rattle.std.specs.Prelude.{slice_index}
use Rattle.riichi_shape.specs.Accepted.{accepted_of, with_one}
use Rattle.riichi_shape.specs.EveryWinning.{distance_of}
use Rattle.riichi_tiles.specs.HeldKinds.{is_held}
use Rattle.riichi_shape.specs.KindBits.{copies_among}
use Rattle.riichi_shape.specs.LackedKinds.{AreLackedOf}
use Rattle.riichi_shape.specs.LiveCopies.{live_in, pairs_of}
use Rattle.riichi_shape.specs.Rows.{DifferAt}
use Rattle.riichi_shape.proofs.AcceptedLemmas.{live_same}
use Rattle.riichi_shape.proofs.KeptLemmas.{same_discard}
use Rattle.riichi_shape.proofs.KeptJoins.{set_differs}
use Rattle.riichi_shape.proofs.OneMore.{special_without}
use Rattle.riichi_shape.proofs.removal.discard_of.Goals as goal

pub distance_with-requires-clause-joins : goal.distance_with-requires-clause-joins
distance_with-requires-clause-joins g c =
    let hand = c.args.hand.now in
    record {
      before = hand;
      joins_before = record { rows = c.args.forms.now.rows; are_rows = c.requires.forms.are_rows; are_joins = c.requires.forms.are_joins };
      differ = subst (λ (after : List ℕ). DifferAt c.args.kind hand after) (sym c.remove.ensures.value) (set_differs hand c.args.kind (slice_index hand c.args.kind - 1));
    }

pub distance_with-requires-clause-floor : goal.distance_with-requires-clause-floor
distance_with-requires-clause-floor g c =
    let hand = c.args.hand.now in
    let melds = c.args.melds.now in
    special_without hand c.remove.new.self melds c.args.kind c.distance-floor.result c.remove.ensures.counts.each_kind c.requires.held c.remove.ensures.value (c.distance-floor.ensures hand melds c.requires.forms.special).none_less

pub distance_with-requires-clause-row : goal.distance_with-requires-clause-row
distance_with-requires-clause-row g c = c.row_at-row.ensures.row c.args.melds.now c.requires.forms.are_caps

pub returns-clause-kept : goal.returns-clause-kept
returns-clause-kept g c =
    let hand = c.args.hand.now in
    let melds = c.args.melds.now in
    let kind = c.args.kind in
    let copies = c.args.live.now.copies in
    let long : length hand ≡ 34 = sym (length-set hand kind (slice_index hand kind - 1)) ∙ ap length (sym c.remove.ensures.value) ∙ c.remove.ensures.counts.each_kind in (
      ap (λ rest. distance_of rest melds) (sym c.remove.ensures.value) ∙ sym c.distance_with.ensures.value ∙ c.if-distance_with-least.false,
      λ seen are. same_discard c.new.ensures.kind
          (ap (λ s. pairs_of (copies_among copies s)) c.new.ensures.accepted
          ∙ c.accepted_by-accepted.ensures.accepted melds (with_one seen kind) (subst (λ (rest : List ℕ). AreLackedOf rest melds c.lacked_without-lacked.result) (sym c.remove.ensures.value) c.lacked_without-lacked.ensures)
          (live_same hand c.remove.new.self melds seen copies kind c.requires.held long c.remove.ensures.value are)
          ∙ ap (λ rest. accepted_of rest melds (with_one seen kind)) c.remove.ensures.value),
      record {
        numbers_below = c.new.ensures.numbers;
        honours_below = c.new.ensures.honours;
        some_live = λ other low there. c.accepted_by-accepted.ensures.live other low (ap (λ s. is_held s other) (sym c.new.ensures.accepted) ∙ there);
        live_is = c.new.ensures.live ∙ c.among.ensures ∙ ap (λ s. live_in (pairs_of (copies_among copies s))) (sym c.new.ensures.accepted);
      },
    )
