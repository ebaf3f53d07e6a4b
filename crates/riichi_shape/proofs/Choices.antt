-- The list of the discards of a hand has those that leave the least, and no other.
use Rattle.std.proofs.Common.{◌≡◌, ℕ, ◌<◌, Bool, true, false, cond, inl, inr, List, [], ◌∷◌, map, sym, ap, ◌∙◌, ⊎_elim, subst, arith}
use Rattle.std.proofs.lemmas.Bool.{and_parts, and_from, ltb-true, lt-ltb, leb-true, le-leb}
use Rattle.std.specs.List.{filter}
use Rattle.std.specs.Prelude.{nat_le, slice_index, ◌↔◌}
use Rattle.riichi_tiles.specs.Tiles.{has_tile}
use Rattle.riichi_hand.specs.Hand.{is_thirteen}
use Rattle.riichi_hand.specs.HandParts.{ShapeParts}
use Rattle.riichi_tiles.specs.Melds.{every_kind}
use Rattle.riichi_tiles.specs.declared.meld.Meld.{Meld}
use Rattle.riichi_shape.specs.Accepted.{accepted_of}
use Rattle.riichi_shape.specs.Answer.{accepts_of, shape_answer_of}
use Rattle.riichi_shape.specs.Choosing.{DiscardsLaw, HasDiscards, LeavesLeast}
use Rattle.riichi_shape.specs.Discards.{discard_of, discards_of, distance_without, in_order, inserted, inserted_by, is_best, is_discard, live_with}
use Rattle.riichi_shape.specs.declared.accepts.Accepts.TheVariants.{Thirteen, Fourteen}
use Rattle.riichi_shape.specs.declared.discard.Discard.{Discard}
use Rattle.riichi_shape.specs.declared.shape_answer.ShapeAnswer.{ShapeAnswer}
use Rattle.riichi_tiles.proofs.Members.{Contains-in, IsIn, in-Contains, all-from, all-in, in-filter, in-filter-inv, in-map, in-map-inv, in-range, in-range-inv}

-- ---- the order changes nothing of what stands in the list

put_same : (x discard next : Discard) (rest others : List Discard) (t : Bool) → IsIn x others ↔ IsIn x (discard ∷ rest)
    → IsIn x (cond t (discard ∷ next ∷ rest) (next ∷ others)) ↔ IsIn x (discard ∷ next ∷ rest)
put_same x discard next rest others true same = (λ h. h, λ h. h)
put_same x discard next rest others false same = (
  λ h. ⊎_elim (λ e. inr (inl e)) (λ more. ⊎_elim (λ here. inl here) (λ r. inr (inr r)) (same.0 more)) h,
  λ h. ⊎_elim (λ here. inr (same.1 (inl here))) (λ more. ⊎_elim (λ e. inl e) (λ r. inr (same.1 (inr r))) more) h,
)

inserted_same : (x discard : Discard) (rest : List Discard) → IsIn x (inserted discard rest) ↔ IsIn x (discard ∷ rest)
unfolding inserted_by
inserted_same x discard [] = (λ h. h, λ h. h)
inserted_same x discard (next ∷ rest) =
    put_same x discard next rest (inserted discard rest)
    (nat_le (live_with next) (live_with discard)) (inserted_same x discard rest)

order_same : (x : Discard) (xs : List Discard) → IsIn x (in_order xs) ↔ IsIn x xs
unfolding in_order
order_same x [] = (λ h. h, λ h. h)
order_same x (discard ∷ rest) =
    let put = inserted_same x discard (in_order rest) in
    let later = order_same x rest in (
      λ h. ⊎_elim (λ here. inl here) (λ r. inr (later.0 r)) (put.0 h),
      λ h. put.1 (⊎_elim (λ here. inl here) (λ r. inr (later.1 r)) h),
    )

-- ---- the test of a kind

module _ (hand : List ℕ) (melds : List Meld) where
  abbrev leaves_no_more : ℕ → ℕ → Bool
  leaves_no_more kind other = nat_le (distance_without hand melds kind) (distance_without hand melds other)

  pub leaves_least : (kind : ℕ) → kind < 34 → is_discard hand melds kind ≡ true → LeavesLeast hand melds kind
  leaves_least kind low is =
      let tests = and_parts (has_tile hand kind) (is_best hand melds kind) is in record {
        is_kind = low;
        held = ltb-true 0 (slice_index hand kind) tests.0;
        none_less = λ other small held.
            leb-true (distance_without hand melds kind) (distance_without hand melds other)
            (all-in (leaves_no_more kind) (filter (has_tile hand) every_kind) tests.1 other (in-filter (has_tile hand) other every_kind (in-range 34 0 other (omega arith) (omega (arith, small))) (lt-ltb 0 (slice_index hand other) held)));
      }

  pub is_chosen : (kind : ℕ) → LeavesLeast hand melds kind → is_discard hand melds kind ≡ true
  is_chosen kind least =
      and_from (has_tile hand kind) (is_best hand melds kind) (lt-ltb 0 (slice_index hand kind) least.held)
      (all-from (leaves_no_more kind) (filter (has_tile hand) every_kind) (λ other h.
      (let kept = in-filter-inv (has_tile hand) other every_kind h in
      let within = in-range-inv 34 0 other kept.0 in
      le-leb (distance_without hand melds kind) (distance_without hand melds other) (least.none_less other (omega (arith, within.1)) (ltb-true 0 (slice_index hand other) kept.1)))))

  module _ (seen : List ℕ) where
    abbrev chosen : List Discard
    chosen = map (discard_of hand melds seen) (filter (is_discard hand melds) every_kind)

    is_such : (discard : Discard) → IsIn discard chosen → LeavesLeast hand melds discard.kind × (discard ≡ discard_of hand melds seen discard.kind)
    is_such discard there =
        let made = in-map-inv (discard_of hand melds seen) discard (filter (is_discard hand melds) every_kind) there in
        let kept = in-filter-inv (is_discard hand melds) made.0 every_kind made.1 in
        let within = in-range-inv 34 0 made.0 kept.0 in
        let kind : discard.kind ≡ made.0 = ap (λ (d : Discard). d.kind) (sym made.2) in
        (subst (LeavesLeast hand melds) (sym kind) (leaves_least made.0 (omega (arith, within.1)) kept.1), sym made.2 ∙ ap (discard_of hand melds seen) (sym kind))

    stands : (discard : Discard) → LeavesLeast hand melds discard.kind → discard ≡ discard_of hand melds seen discard.kind → IsIn discard chosen
    stands discard least is =
        subst (λ (d : Discard). IsIn d chosen) (sym is)
        (in-map (discard_of hand melds seen) discard.kind (filter (is_discard hand melds) every_kind)
        (in-filter (is_discard hand melds) discard.kind every_kind (in-range 34 0 discard.kind (omega arith) (omega (arith, least.is_kind))) (is_chosen discard.kind least)))

pub discards_are : DiscardsLaw
unfolding discards_of
discards_are hand melds seen discard = (
  λ there. is_such hand melds seen discard ((order_same discard (chosen hand melds seen)).0 (in-Contains discard (in_order (chosen hand melds seen)) there)),
  λ is. Contains-in discard (in_order (chosen hand melds seen)) ((order_same discard (chosen hand melds seen)).1 (stands hand melds seen discard is.0 is.1)),
)

-- ---- on an answer

on_parts : (parts : ShapeParts) (thirteen : Bool) → HasDiscards parts (cond thirteen (Thirteen (accepted_of parts.tiles parts.melds parts.seen)) (Fourteen (discards_of parts.tiles parts.melds parts.seen)))
on_parts parts true = tt
on_parts parts false = discards_are parts.tiles parts.melds parts.seen

pub has_discards : (parts : ShapeParts) (answer : ShapeAnswer) → answer ≡ shape_answer_of parts → HasDiscards parts answer.accepts
unfolding shape_answer_of accepts_of
has_discards parts answer is = subst (λ (a : ShapeAnswer). HasDiscards parts a.accepts) (sym is) (on_parts parts (is_thirteen parts.tiles parts.melds))
