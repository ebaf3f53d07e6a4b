-- Live copies as counts and as pairs.
use Rattle.std.proofs.Common.{◌≡◌, ℕ, zero, suc, ◌+◌, ◌<◌, ◌≤◌, Bool, true, false, cond, List, [], ◌∷◌, map, length, take, get_or, eqb, ltb, refl, sym, ap, ◌∙◌, inl, subst, arith}
use Rattle.std.proofs.lemmas.Bool.{ltb-true}
use Rattle.std.proofs.lemmas.List.FromFn.{get_or-map-range_with_len, length-map-range_with_len}
use Rattle.std.proofs.lemmas.Bool.Decides.{nat_tests}
use Rattle.std.proofs.lemmas.List.{ext_get_or, take_all}
use Rattle.std.proofs.lemmas.List.Sums.{sum_by-cons}
use Rattle.std.specs.List.{filter, range_with_len, sum}
use Rattle.std.specs.Prelude.{slice_index, sum_by, nat_lt, ◌==◌}
use Rattle.riichi_tiles.specs.Melds.{every_kind}
use Rattle.riichi_rows.proofs.Spread.{spread, spread_none, spread_shift, spread_with}
use Rattle.riichi_shape.specs.LiveCopies.{AreLive, copies_from, copies_in, live_in, pairs_of}
use Rattle.riichi_tiles.proofs.Members.{IsIn, in-filter-inv, in-map-inv}
use Rattle.riichi_shape.proofs.PairLemmas.{sum_spread}

-- ---- a sum over the chosen of successive numbers

sum_chosen : {X : Type 0} (f : ℕ → X) (g : X → ℕ) (t : Bool) (k : ℕ) (ks : List ℕ) → sum_by g (map f (cond t (k ∷ ks) ks)) ≡ cond t (g (f k)) 0 + sum_by g (map f ks)
sum_chosen f g true k ks = sum_by-cons g (f k) (map f ks)
sum_chosen f g false k ks = omega arith

pub sum_filtered : {X : Type 0} (f : ℕ → X) (p : ℕ → Bool) (g : X → ℕ) (a n : ℕ) → sum_by g (map f (filter p (range_with_len a n))) ≡ spread (λ k. cond (p k) (g (f k)) 0) a n
unfolding spread
sum_filtered f p g a zero = refl
sum_filtered f p g a (suc n) =
    sum_chosen f g (p a) a (filter p (range_with_len (a + 1) n)) ∙ ap (λ m. cond (p a) (g (f a)) 0 + m) (sum_filtered f p g (a + 1) n)

-- ---- the pairs of some copies

one_kind : (h k t : ℕ) → cond (ltb 0 h) (cond (eqb k t) h 0) 0 ≡ 0 + cond (eqb k t) h 0
one_kind h k t = grind (arith, nat_tests)

pub copies_told : (copies : List ℕ) (kind : ℕ) → kind < 34 → copies_in (pairs_of copies) kind ≡ slice_index copies kind
unfolding pairs_of
copies_told copies kind low =
    sum_filtered (λ k. (k, slice_index copies k)) (λ k. nat_lt 0 (slice_index copies k)) (λ pair. cond (pair.0 == kind) pair.1 0) 0 34
    ∙ spread_with (λ k. cond (ltb 0 (slice_index copies k)) (cond (eqb k kind) (slice_index copies k) 0) 0) (λ k. 0) (slice_index copies) kind (λ k. one_kind (slice_index copies k) k kind) 0 34 (omega arith) (omega arith)
    ∙ ap (λ n. n + slice_index copies kind) (spread_none (λ k. 0) 0 34 (λ k l h. refl)) ∙ omega arith

pub some_live : (h : ℕ) → cond (ltb 0 h) h 0 ≡ h
some_live h = grind (arith, nat_tests)

pub live_told : (copies : List ℕ) → length copies ≡ 34 → live_in (pairs_of copies) ≡ sum copies
unfolding pairs_of
live_told copies long =
    sum_filtered (λ k. (k, slice_index copies k)) (λ k. nat_lt 0 (slice_index copies k)) (λ pair. pair.1) 0 34
    ∙ spread_shift (λ k. cond (ltb 0 (slice_index copies k)) (slice_index copies k) 0) (λ k. get_or copies k 0) 0 0 34 (λ k low. some_live (slice_index copies (0 + k)))
    ∙ sum_spread copies long

pub are_live : (copies : List ℕ) → length copies ≡ 34 → ((kind : ℕ) → slice_index copies kind ≤ 4) → AreLive copies
unfolding copies_from
are_live copies long few = record {
  counts = record { each_kind = long; at_most_four = few };
  told = ext_get_or 0 copies (map (copies_in (pairs_of copies)) every_kind) (long ∙ sym (length-map-range_with_len (copies_in (pairs_of copies)) 0 34))
      (λ k low. (let inside : k < 34 = omega arith in sym (get_or-map-range_with_len (copies_in (pairs_of copies)) 0 34 k k 0 inside (omega arith) ∙ copies_told copies k inside)));
}

pub told_at : (copies : List ℕ) (pairs : List (ℕ × ℕ)) (place kind : ℕ) → pairs_of copies ≡ pairs → place ≡ kind → kind < 34 → get_or copies place 0 ≡ copies_in pairs kind
told_at copies pairs place kind view is low = ap (λ k. get_or copies k 0) is ∙ sym (copies_told copies kind low) ∙ ap (λ ps. copies_in ps kind) view

pub live_is : (copies : List ℕ) (pairs : List (ℕ × ℕ)) (live place : ℕ) → pairs_of copies ≡ pairs → length copies ≡ 34 → live ≡ sum (take place copies) → length copies ≤ place → live ≡ live_in pairs
live_is copies pairs live place view long is all = is ∙ ap sum (take_all place copies all) ∙ sym (live_told copies long) ∙ ap live_in view

-- without live copies there is no pair
pub empty_is : (copies : List ℕ) (pairs : List (ℕ × ℕ)) → pairs_of copies ≡ pairs → live_in pairs ≡ 0 → pairs ≡ []
unfolding pairs_of
empty_is copies [] e none = refl
empty_is copies (pair ∷ pairs) e none =
    let there = subst (λ (ps : List (ℕ × ℕ)). IsIn pair ps) (sym e) (inl refl) in
    let r = in-map-inv (λ kind. (kind, slice_index copies kind)) pair (filter (λ kind. nat_lt 0 (slice_index copies kind)) every_kind) there in
    let t = in-filter-inv (λ kind. nat_lt 0 (slice_index copies kind)) r.0 every_kind r.1 in
    absurd (omega (arith, ltb-true 0 (slice_index copies r.0) t.1, ap (λ p. p.1) r.2, sum_by-cons (λ p. p.1) pair pairs, none))
