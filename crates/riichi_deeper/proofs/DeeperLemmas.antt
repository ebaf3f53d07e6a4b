-- The sums of second and good, kind by kind.
use Rattle.std.proofs.Common.{◌≡◌, ℕ, suc, ◌+◌, ◌-◌, ◌*◌, ◌<◌, ◌≤◌, Bool, true, false, cond, List, [], ◌∷◌, map, Some, None, refl, sym, ap, subst, ◌∙◌, ⊎_elim, arith}
use Rattle.std.proofs.lemmas.Bool.{lt-ltb, ltb-true, and_parts}
use Rattle.std.proofs.lemmas.Bool.Decides.{nat_tests}
use Rattle.std.proofs.lemmas.List.Sums.{sum_by-cons}
use Rattle.std.specs.List.{filter, range_with_len}
use Rattle.std.specs.Option.{option_map}
use Rattle.std.specs.Prelude.{nat_le, nat_lt, slice_get, slice_index, sum_by, if◌then◌else◌}
use Rattle.riichi_hand.specs.Hand.{copies_with}
use Rattle.riichi_hand.specs.HandParts.{ShapeParts}
use Rattle.riichi_tiles.specs.Melds.{every_kind}
use Rattle.riichi_tiles.proofs.Members.{IsIn, in-filter, in-filter-inv, in-map, in-map-inv, in-range}
use Rattle.riichi_shape.specs.Accepted.{accepted_of, is_accepted, live_of}
use Rattle.riichi_shape.specs.Discards.{discards_of, live_with}
use Rattle.riichi_shape.specs.EveryWinning.{distance_of}
use Rattle.riichi_shape.specs.KeptDiscards.{short_of}
use Rattle.riichi_shape.specs.LiveCopies.{pairs_of}
use Rattle.riichi_shape.specs.Ordered.{AreOrdered, StandsBeforeAll}
use Rattle.riichi_shape.specs.declared.discard.Discard.{Discard}
use Rattle.riichi_shape.specs.declared.discard.ShortDiscard.{ShortDiscard}
use Rattle.riichi_shape.proofs.OrderLemmas.{ordered}
use Rattle.riichi_deeper.specs.Deeper.{best_left, deeper_of, good_by, good_of, left_after, most_live, outlook_of, second_by, second_of}
use Rattle.riichi_deeper.specs.Drawn.{parts_with}
use Rattle.riichi_deeper.specs.declared.outlook.Outlook.{Outlook}

-- ---- the first discard of an ordered list leaves the most

first_most : (discard : Discard) (rest : List Discard) → StandsBeforeAll discard rest → most_live rest ≤ live_with discard
first_most discard [] all = omega arith
first_most discard (next ∷ rest) all = ⊎_elim (λ fewer. omega (arith, fewer, first_most discard rest all.1)) (λ same. omega (arith, same.0, first_most discard rest all.1)) all.0

pub most_some : (discards : List Discard) (first : ShortDiscard) → AreOrdered discards → Some first ≡ option_map short_of (slice_get discards 0) → first.live ≡ most_live discards
most_some [] first are e = absurd (cc)
most_some (discard ∷ rest) first are e = let same : first ≡ short_of discard = cc in omega (arith, ap (λ (d : ShortDiscard). d.live) same, first_most discard rest are.0)

pub most_none : (discards : List Discard) → AreOrdered discards → None ≡ option_map short_of (slice_get discards 0) → 0 ≡ most_live discards
most_none [] are e = refl
most_none (discard ∷ rest) are e = absurd (cc)

pub best_is : (parts : ShapeParts) (discards : List Discard) (n : ℕ) → discards ≡ discards_of parts.tiles parts.melds parts.seen → (AreOrdered discards → n ≡ most_live discards) → n ≡ best_left parts
unfolding best_left
best_is parts discards n e most = most (subst (λ (ds : List Discard). AreOrdered ds) (sym e) (ordered parts.tiles parts.melds parts.seen)) ∙ ap most_live e

-- ---- a sum over pairs, from a kind on

abbrev pub pair_at : List ℕ → ℕ → ℕ × ℕ
pair_at copies kind = (kind, slice_index copies kind)

abbrev pub has_copies : List ℕ → ℕ → Bool
has_copies copies kind = nat_lt 0 (slice_index copies kind)

unfoldable pub sum_from : (ℕ × ℕ → ℕ) → List ℕ → ℕ → ℕ → ℕ
sum_from f copies a n = sum_by f (map (pair_at copies) (filter (has_copies copies) (range_with_len a n)))

unfoldable pub rest_of : (ℕ × ℕ → ℕ) → List ℕ → ℕ → ℕ
rest_of f copies kind = sum_from f copies kind (34 - kind)

chosen_sum : (f : ℕ × ℕ → ℕ) (copies : List ℕ) (t : Bool) (kind : ℕ) (kinds : List ℕ) → sum_by f (map (pair_at copies) (cond t (kind ∷ kinds) kinds)) ≡ cond t (f (pair_at copies kind)) 0 + sum_by f (map (pair_at copies) kinds)
chosen_sum f copies true kind kinds = sum_by-cons f (pair_at copies kind) (map (pair_at copies) kinds)
chosen_sum f copies false kind kinds = omega arith

from_step : (f : ℕ × ℕ → ℕ) (copies : List ℕ) (a n : ℕ) → sum_from f copies a (suc n) ≡ cond (has_copies copies a) (f (pair_at copies a)) 0 + sum_from f copies (a + 1) n
unfolding sum_from
from_step f copies a n = chosen_sum f copies (has_copies copies a) a (filter (has_copies copies) (range_with_len (a + 1) n))

at_length : (f : ℕ × ℕ → ℕ) (copies : List ℕ) (a m n : ℕ) → m ≡ n → sum_from f copies a m ≡ sum_from f copies a n
at_length f copies a m n e = ap (sum_from f copies a) e

rest_step : (f : ℕ × ℕ → ℕ) (copies : List ℕ) (kind : ℕ) → kind < 34 → rest_of f copies kind ≡ cond (has_copies copies kind) (f (pair_at copies kind)) 0 + rest_of f copies (kind + 1)
unfolding rest_of
rest_step f copies kind low = at_length f copies kind (34 - kind) (suc (34 - (kind + 1))) (omega arith) ∙ from_step f copies kind (34 - (kind + 1))

pub rest_some : (f : ℕ × ℕ → ℕ) (copies : List ℕ) (kind : ℕ) → kind < 34 → 0 < slice_index copies kind → rest_of f copies kind ≡ f (kind, slice_index copies kind) + rest_of f copies (kind + 1)
rest_some f copies kind low some = rest_step f copies kind low ∙ ap (λ t. cond t (f (pair_at copies kind)) 0 + rest_of f copies (kind + 1)) (lt-ltb 0 (slice_index copies kind) some)

pub rest_none : (f : ℕ × ℕ → ℕ) (copies : List ℕ) (kind : ℕ) → kind < 34 → slice_index copies kind ≤ 0 → rest_of f copies kind ≡ rest_of f copies (kind + 1)
rest_none f copies kind low none = rest_step f copies kind low ∙ ap (λ t. cond t (f (pair_at copies kind)) 0 + rest_of f copies (kind + 1)) (no_copies (slice_index copies kind) none) ∙ zero_more (rest_of f copies (kind + 1))
  where
    no_copies : (n : ℕ) → n ≤ 0 → nat_lt 0 n ≡ false
    no_copies n few = grind (arith, nat_tests)

    zero_more : (n : ℕ) → 0 + n ≡ n
    zero_more n = omega arith

pub rest_end : (f : ℕ × ℕ → ℕ) (copies : List ℕ) (kind : ℕ) → kind ≡ 34 → rest_of f copies kind ≡ 0
unfolding rest_of sum_from
rest_end f copies kind e = at_length f copies kind (34 - kind) 0 (omega arith)

pub rest_all : (f : ℕ × ℕ → ℕ) (copies : List ℕ) → rest_of f copies 0 ≡ sum_by f (pairs_of copies)
unfolding rest_of sum_from pairs_of
rest_all f copies = refl

-- ---- a kind of the list has a live copy

pub accepted_left : (parts : ShapeParts) (copies : List ℕ) (kind : ℕ) → pairs_of copies ≡ accepted_of parts.tiles parts.melds parts.seen → kind < 34 → 0 < slice_index copies kind → copies_with parts kind < 4
unfolding pairs_of accepted_of
accepted_left parts copies kind same low some =
    let live : ℕ → ℕ = live_of parts.tiles parts.melds parts.seen in
    let there : IsIn (kind, slice_index copies kind) (accepted_of parts.tiles parts.melds parts.seen) =
    subst (λ (pairs : List (ℕ × ℕ)). IsIn (kind, slice_index copies kind) pairs) same
    (in-map (pair_at copies) kind (filter (has_copies copies) every_kind) (in-filter (has_copies copies) kind every_kind (in-range 34 0 kind (omega arith) (omega (arith, low))) (lt-ltb 0 (slice_index copies kind) some))) in
    let made = in-map-inv (λ k. (k, live k)) (kind, slice_index copies kind) (filter (is_accepted parts.tiles parts.melds parts.seen) every_kind) there in
    let kept = in-filter-inv (is_accepted parts.tiles parts.melds parts.seen) made.0 every_kind made.1 in
    let same_kind : made.0 ≡ kind = ap (λ (p : ℕ × ℕ). p.0) made.2 in
    let is_live = ltb-true 0 (live made.0) (and_parts _ _ kept.1).0 in
    omega (arith, is_live, ap live same_kind)

-- ---- the sums, one kind more

pub product_few : (live left : ℕ) → live ≤ 4 → left ≤ 255 → live * left ≤ 1020
product_few live left few small = grind arith

pub second_all : (parts : ShapeParts) (copies : List ℕ) (accepted : List (ℕ × ℕ)) → accepted ≡ pairs_of copies → accepted ≡ accepted_of parts.tiles parts.melds parts.seen → 0 + rest_of (second_by parts) copies 0 ≡ second_of parts
unfolding second_of
second_all parts copies accepted e f = omega (arith, rest_all (second_by parts) copies, ap (sum_by (second_by parts)) (sym e ∙ f))

pub good_all : (parts : ShapeParts) (copies : List ℕ) (accepted : List (ℕ × ℕ)) → accepted ≡ pairs_of copies → accepted ≡ accepted_of parts.tiles parts.melds parts.seen → 0 + rest_of (good_by parts) copies 0 ≡ good_of parts
unfolding good_of
good_all parts copies accepted e f = omega (arith, rest_all (good_by parts) copies, ap (sum_by (good_by parts)) (sym e ∙ f))

module _ (parts : ShapeParts) (copies : List ℕ) (kind : ℕ) (low : kind < 34) where
  pub left_told : (drawn : ShapeParts) (place left : ℕ) → place ≡ kind → drawn ≡ parts_with parts place → left ≡ best_left drawn → left ≡ left_after parts kind
  left_told drawn place left e f g = g ∙ ap best_left (f ∙ ap (parts_with parts) e)

  pub second_more : (so_far after left : ℕ) → 0 < slice_index copies kind → left ≡ left_after parts kind → after ≡ so_far + slice_index copies kind * left → so_far + rest_of (second_by parts) copies kind ≡ second_of parts → after + rest_of (second_by parts) copies (kind + 1) ≡ second_of parts
  second_more so_far after left some left_is more inv = omega (arith, rest_some (second_by parts) copies kind low some, ap (λ n. slice_index copies kind * n) left_is, more, inv)

  pub good_more : (so_far after left more : ℕ) → 0 < slice_index copies kind → left ≡ left_after parts kind → more ≡ (if nat_le 5 left then slice_index copies kind else 0) → after ≡ so_far + more → so_far + rest_of (good_by parts) copies kind ≡ good_of parts → after + rest_of (good_by parts) copies (kind + 1) ≡ good_of parts
  good_more so_far after left more some left_is more_is after_is inv = omega (arith, rest_some (good_by parts) copies kind low some, more_is ∙ ap (λ n. if nat_le 5 n then slice_index copies kind else 0) left_is, after_is, inv)

  pub second_same : (so_far : ℕ) → slice_index copies kind ≤ 0 → so_far + rest_of (second_by parts) copies kind ≡ second_of parts → so_far + rest_of (second_by parts) copies (kind + 1) ≡ second_of parts
  second_same so_far none inv = omega (arith, rest_none (second_by parts) copies kind low none, inv)

  pub good_same : (so_far : ℕ) → slice_index copies kind ≤ 0 → so_far + rest_of (good_by parts) copies kind ≡ good_of parts → so_far + rest_of (good_by parts) copies (kind + 1) ≡ good_of parts
  good_same so_far none inv = omega (arith, rest_none (good_by parts) copies kind low none, inv)

pub second_end : (parts : ShapeParts) (copies : List ℕ) (kind so_far : ℕ) → kind ≡ 34 → so_far + rest_of (second_by parts) copies kind ≡ second_of parts → so_far ≡ second_of parts
second_end parts copies kind so_far e inv = omega (arith, rest_end (second_by parts) copies kind e, inv)

pub good_end : (parts : ShapeParts) (copies : List ℕ) (kind so_far : ℕ) → kind ≡ 34 → so_far + rest_of (good_by parts) copies kind ≡ good_of parts → so_far ≡ good_of parts
good_end parts copies kind so_far e inv = omega (arith, rest_end (good_by parts) copies kind e, inv)

-- ---- a ready hand

pub ready_none : (parts : ShapeParts) → nat_lt 1 (distance_of parts.tiles parts.melds) ≡ false → None ≡ deeper_of parts
unfolding deeper_of
ready_none parts e = ap (λ t. if t then Some (outlook_of parts) else None) (sym e)

pub far_some : (parts : ShapeParts) (outlook : Outlook) → nat_lt 1 (distance_of parts.tiles parts.melds) ≡ true → outlook.second ≡ second_of parts → outlook.good ≡ good_of parts → Some outlook ≡ deeper_of parts
unfolding deeper_of
far_some parts outlook far second good = ap Some same ∙ sym (ap (λ t. if t then Some (outlook_of parts) else None) far)
  where
    same : outlook ≡ outlook_of parts
    same = let made : ℕ → ℕ → Outlook = λ s g. record { second = s; good = g } in ap (λ n. made n outlook.good) second ∙ ap (λ n. made (second_of parts) n) good
