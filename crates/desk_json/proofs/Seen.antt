-- What holds of each element of a list.
use Rattle.std.proofs.Common.{◌≡◌, ℕ, zero, suc, ◌+◌, ◌≤◌, Bool, true, false, cond, List, [], ◌∷◌, map, take, Some, sym, subst, add-one, arith}
use Rattle.std.proofs.lemmas.Option.{same_Some}
use Rattle.std.specs.List.{filter, range_with_len}
use Rattle.std.specs.Prelude.{slice_get, slice_index, nat_lt}
use Rattle.riichi_shape.specs.LiveCopies.{pairs_of}
use Rattle.desk_json.specs.Whole.{Each, IsWholePair}

pairs_whole : (copies : List ℕ) (test : ℕ → Bool) (a n : ℕ) → ((k : ℕ) → slice_index copies k ≤ 4) → a + n ≤ 34
    → Each IsWholePair (map (λ k. (k, slice_index copies k)) (filter test (range_with_len a n)))
pairs_whole copies test a zero few within = tt
pairs_whole copies test a (suc n) few within = by_test (test a) (pairs_whole copies test (a + 1) n few (omega arith))
  where
    by_test : (t : Bool) → Each IsWholePair (map (λ k. (k, slice_index copies k)) (filter test (range_with_len (a + 1) n)))
        → Each IsWholePair (map (λ k. (k, slice_index copies k)) (cond t (a ∷ filter test (range_with_len (a + 1) n)) (filter test (range_with_len (a + 1) n))))
    by_test true rest = ((omega arith, few a), rest)
    by_test false rest = rest

pub all_pairs_whole : (copies : List ℕ) → ((k : ℕ) → slice_index copies k ≤ 4) → Each IsWholePair (pairs_of copies)
unfolding pairs_of
all_pairs_whole copies few = pairs_whole copies (λ k. nat_lt 0 (slice_index copies k)) 0 34 few (omega arith)

each_front : {X : Type 0} (P : X → Type 0) (xs : List X) (i : ℕ) (x : X) → Each P (take i xs) → slice_get xs i ≡ Some x → P x → Each P (take (suc i) xs)
each_front P [] i x h e p = tt
each_front P (y ∷ ys) zero x h e p = (subst P (sym (same_Some y x e)) p, tt)
each_front P (y ∷ ys) (suc i) x h e p = (h.0, each_front P ys i x h.1 e p)

pub each_more : {X : Type 0} (P : X → Type 0) (xs : List X) (i : ℕ) (x : X) → Each P (take i xs) → slice_get xs i ≡ Some x → P x → Each P (take (i + 1) xs)
each_more P xs i x h e p = subst (λ n. Each P (take n xs)) (sym (add-one i)) (each_front P xs i x h e p)
