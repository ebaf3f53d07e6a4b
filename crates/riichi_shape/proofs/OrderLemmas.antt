-- The discards of a hand stand in their order.
use Rattle.std.proofs.Common.{◌≡◌, ℕ, zero, suc, ◌+◌, ◌<◌, ◌≤◌, Bool, true, false, cond, ◌⊎◌, inl, inr, List, [], ◌∷◌, map, leb, refl, ⊎_elim, arith}
use Rattle.std.proofs.lemmas.Bool.{leb-false, leb-true}
use Rattle.std.proofs.lemmas.Bool.Decides.{nat_tests}
use Rattle.std.specs.List.{AllByRecursion, filter, range_with_len}
use Rattle.std.specs.Prelude.{nat_le}
use Rattle.riichi_tiles.specs.declared.meld.Meld.{Meld}
use Rattle.riichi_shape.specs.Discards.{discard_of, discards_of, in_order, inserted, inserted_by, is_discard, live_with}
use Rattle.riichi_shape.specs.Ordered.{AreOrdered, OrderLaw, StandsBefore, StandsBeforeAll}
use Rattle.riichi_shape.specs.declared.discard.Discard.{Discard}

-- a discard of a lesser kind than each of these
abbrev IsOfLesserKind : Discard → List Discard → Type 0
IsOfLesserKind discard rest = AllByRecursion (λ next. discard.kind < next.kind) rest

-- more live copies than the first are more than all
after : (discard next : Discard) (rest : List Discard) → live_with next ≤ live_with discard → discard.kind < next.kind → StandsBeforeAll next rest → IsOfLesserKind discard rest → StandsBeforeAll discard rest
after discard next [] few kind all lesser = tt
after discard next (other ∷ rest) few kind all lesser =
    (⊎_elim (λ fewer. inl (omega (arith, few, fewer))) (λ same. by_test (leb (live_with discard) (live_with other)) refl same.0) all.0, after discard next rest few kind all.1 lesser.1)
  where
    by_test : (t : Bool) → leb (live_with discard) (live_with other) ≡ t → live_with other ≡ live_with next → StandsBefore discard other
    by_test true e same = inr (as_many (live_with discard) (live_with other) (live_with next) e same few, lesser.0)
      where
        as_many : (d o n : ℕ) → leb d o ≡ true → o ≡ n → n ≤ d → o ≡ d
        as_many d o n e same few = grind (arith, nat_tests)
    by_test false e same = inl (leb-false (live_with discard) (live_with other) e)

first_before : (discard next : Discard) → nat_le (live_with next) (live_with discard) ≡ true → discard.kind < next.kind → StandsBefore discard next
first_before discard next e kind = by_live (live_with discard) (live_with next) e
  where
    by_live : (d n : ℕ) → leb n d ≡ true → (n < d) ⊎ ((n ≡ d) × (discard.kind < next.kind))
    by_live d n e = ⊎_elim (λ fewer. inl fewer) (λ same. inr (same, kind)) (either d n e)
      where
        either : (d n : ℕ) → leb n d ≡ true → (n < d) ⊎ (n ≡ d)
        either d n e = grind (arith, nat_tests)

-- what holds of each of some discards and of one more holds of each once this is put among them
all_inserted : (Is : Discard → Type 0) (discard : Discard) (rest : List Discard) → Is discard → AllByRecursion Is rest → AllByRecursion Is (inserted discard rest)
unfolding inserted_by
all_inserted Is discard [] is all = (is, tt)
all_inserted Is discard (next ∷ rest) is all = by_test (nat_le (live_with next) (live_with discard)) (all_inserted Is discard rest is all.1)
  where
    by_test : (t : Bool) → AllByRecursion Is (inserted discard rest) → AllByRecursion Is (cond t (discard ∷ next ∷ rest) (next ∷ inserted discard rest))
    by_test true later = (is, all)
    by_test false later = (all.0, later)

ordered_inserted : (discard : Discard) (rest : List Discard) → IsOfLesserKind discard rest → AreOrdered rest → AreOrdered (inserted discard rest)
unfolding inserted_by
ordered_inserted discard [] lesser are = (tt, tt)
ordered_inserted discard (next ∷ rest) lesser are = by_test (nat_le (live_with next) (live_with discard)) refl (ordered_inserted discard rest lesser.1 are.1)
  where
    by_test : (t : Bool) → nat_le (live_with next) (live_with discard) ≡ t → AreOrdered (inserted discard rest) → AreOrdered (cond t (discard ∷ next ∷ rest) (next ∷ inserted discard rest))
    by_test true e later = ((first_before discard next e lesser.0, after discard next rest (leb-true (live_with next) (live_with discard) e) lesser.0 are.0 lesser.1), are)
    by_test false e later = (all_inserted (StandsBefore next) discard rest (inl (leb-false (live_with next) (live_with discard) e)) are.0, later)

module _ (hand : List ℕ) (melds : List Meld) (seen : List ℕ) where
  abbrev chosen : ℕ → ℕ → List Discard
  chosen a n = in_order (map (discard_of hand melds seen) (filter (is_discard hand melds) (range_with_len a n)))

  pub chosen_step : (t : Bool) (kind : ℕ) (kinds : List ℕ) → in_order (map (discard_of hand melds seen) (cond t (kind ∷ kinds) kinds)) ≡ cond t (inserted (discard_of hand melds seen kind) (in_order (map (discard_of hand melds seen) kinds))) (in_order (map (discard_of hand melds seen) kinds))
  unfolding in_order
  chosen_step true kind kinds = refl
  chosen_step false kind kinds = refl

  lesser_chosen : (first : Discard) (a n : ℕ) → first.kind < a → IsOfLesserKind first (chosen a n)
  unfolding in_order
  lesser_chosen first a zero low = tt
  lesser_chosen first a (suc n) low = rw (chosen_step (is_discard hand melds a) a (filter (is_discard hand melds) (range_with_len (a + 1) n))) (by_test (is_discard hand melds a) (lesser_chosen first (a + 1) n (omega arith)))
    where
      by_test : (t : Bool) → IsOfLesserKind first (chosen (a + 1) n) → IsOfLesserKind first (cond t (inserted (discard_of hand melds seen a) (chosen (a + 1) n)) (chosen (a + 1) n))
      by_test true rest = all_inserted (λ next. first.kind < next.kind) (discard_of hand melds seen a) (chosen (a + 1) n) low rest
      by_test false rest = rest

  ordered_chosen : (a n : ℕ) → AreOrdered (chosen a n)
  unfolding in_order
  ordered_chosen a zero = tt
  ordered_chosen a (suc n) = rw (chosen_step (is_discard hand melds a) a (filter (is_discard hand melds) (range_with_len (a + 1) n))) (by_test (is_discard hand melds a) (ordered_chosen (a + 1) n))
    where
      by_test : (t : Bool) → AreOrdered (chosen (a + 1) n) → AreOrdered (cond t (inserted (discard_of hand melds seen a) (chosen (a + 1) n)) (chosen (a + 1) n))
      by_test true rest = ordered_inserted (discard_of hand melds seen a) (chosen (a + 1) n) (lesser_chosen (discard_of hand melds seen a) (a + 1) n (omega arith)) rest
      by_test false rest = rest

pub ordered : OrderLaw
unfolding discards_of
ordered hand melds seen = ordered_chosen hand melds seen 0 34
