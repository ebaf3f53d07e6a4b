-- The accepted kinds as counts and as pairs.
use Rattle.std.proofs.Common.{◌≡◌, ℕ, zero, suc, ◌+◌, ◌-◌, ◌<◌, ◌≤◌, Bool, true, false, cond, List, ◌∷◌, map, get_or, length, ltb, length-set, get_or-set_same, get_or-set_other, refl, sym, ap, ◌∙◌, ⊎_elim, arith}
use Rattle.std.proofs.lemmas.Bool.{cases_lt}
use Rattle.std.proofs.lemmas.Bool.Decides.{nat_tests}
use Rattle.std.proofs.lemmas.List.{get_or_past}
use Rattle.std.specs.List.{filter, range_with_len}
use Rattle.std.specs.Prelude.{slice_index, nat_lt, ◌&&◌}
use Rattle.riichi_tiles.specs.declared.meld.Meld.{Meld}
use Rattle.riichi_shape.specs.Accepted.{AreLiveCopies, accepted_copies, accepted_of, is_accepted, live_of, with_one, without_one}
use Rattle.riichi_shape.specs.EveryWinning.{distance_of}
use Rattle.riichi_shape.specs.LiveCopies.{pairs_of}

-- two choices of successive numbers that agree
pub record Agree {X : Type 0} (f g : ℕ → X) (p q : ℕ → Bool) (k : ℕ) : Type 0 where
  pub test : p k ≡ q k
  pub value : q k ≡ true → f k ≡ g k

chosen_first : {X : Type 0} (x y : X) (t u : Bool) (xs ys : List X) → t ≡ u → (u ≡ true → x ≡ y) → xs ≡ ys → cond t (x ∷ xs) xs ≡ cond u (y ∷ ys) ys
chosen_first x y true true xs ys e same rest = ap (λ z. z ∷ xs) (same refl) ∙ ap (λ zs. y ∷ zs) rest
chosen_first x y true false xs ys e same rest = cc
chosen_first x y false true xs ys e same rest = cc
chosen_first x y false false xs ys e same rest = rest

map_chosen : {X : Type 0} (f : ℕ → X) (t : Bool) (k : ℕ) (ks : List ℕ) → map f (cond t (k ∷ ks) ks) ≡ cond t (f k ∷ map f ks) (map f ks)
map_chosen f true k ks = refl
map_chosen f false k ks = refl

pub chosen_same : {X : Type 0} (f g : ℕ → X) (p q : ℕ → Bool) (a n : ℕ) → ((k : ℕ) → k < a + n → Agree f g p q k) → map f (filter p (range_with_len a n)) ≡ map g (filter q (range_with_len a n))
chosen_same f g p q a zero agree = refl
chosen_same f g p q a (suc n) agree =
    let here = agree a (omega arith) in
    map_chosen f (p a) a (filter p (range_with_len (a + 1) n))
    ∙ chosen_first (f a) (g a) (p a) (q a) (map f (filter p (range_with_len (a + 1) n))) (map g (filter q (range_with_len (a + 1) n))) here.test here.value (chosen_same f g p q (a + 1) n (λ k low. agree k (omega arith)))
    ∙ sym (map_chosen g (q a) a (filter q (range_with_len (a + 1) n)))

some_accepted : (c l : ℕ) (u : Bool) → c ≡ cond (ltb 0 l && u) l 0 → ltb 0 c ≡ (ltb 0 l && u)
some_accepted c l true e = grind (arith, nat_tests)
some_accepted c l false e = grind (arith, nat_tests)

live_there : (c l : ℕ) (t : Bool) → c ≡ cond t l 0 → t ≡ true → c ≡ l
live_there c l true e h = e
live_there c l false e h = cc

pub accepted_pairs : (copies hand : List ℕ) (melds : List Meld) (seen : List ℕ) → ((k : ℕ) → k < 34 → get_or copies k 0 ≡ accepted_copies hand melds seen k) → pairs_of copies ≡ accepted_of hand melds seen
unfolding pairs_of accepted_of
accepted_pairs copies hand melds seen each =
    chosen_same (λ k. (k, slice_index copies k)) (λ k. (k, live_of hand melds seen k)) (λ k. nat_lt 0 (slice_index copies k)) (is_accepted hand melds seen) 0 34
    (λ k low. (let e = each k (omega arith) in record {
      test = some_accepted (slice_index copies k) (live_of hand melds seen k) (nat_lt (distance_of (with_one hand k) melds) (distance_of hand melds)) e;
      value = λ t. ap (λ n. (k, n)) (live_there (slice_index copies k) (live_of hand melds seen k) (is_accepted hand melds seen k) e t);
    }))

-- some of the live copies of each kind are no more than four
chosen_few : (t : Bool) (n : ℕ) → n ≤ 4 → cond t n 0 ≤ 4
chosen_few true n few = few
chosen_few false n few = omega arith

pub some_few : (copies live : List ℕ) (lacks : ℕ → Bool) → length copies ≡ 34 → ((k : ℕ) → get_or live k 0 ≤ 4) → ((k : ℕ) → k < 34 → get_or copies k 0 ≡ cond (lacks k) (get_or live k 0) 0) → (k : ℕ) → get_or copies k 0 ≤ 4
some_few copies live lacks long few each k =
    ⊎_elim (λ low. (let some = chosen_few (lacks k) (get_or live k 0) (few k) in omega (arith, each k low, some))) (λ past. (let none = get_or_past copies k 0 (omega (arith, long, past)) in omega (arith, none))) (cases_lt k 34)

pub held_inside : (hand : List ℕ) (kind : ℕ) → length hand ≡ 34 → 0 < slice_index hand kind → kind < 34
held_inside hand kind long held = ⊎_elim (λ low. low) (λ past. absurd (omega (arith, held, get_or_past hand kind 0 (omega (arith, long, past))))) (cases_lt kind 34)

-- a tile that is discarded is seen, so no more copies are live and no fewer
pub live_same : (hand rest : List ℕ) (melds : List Meld) (seen copies : List ℕ) (kind : ℕ) → 0 < slice_index hand kind → length hand ≡ 34 → rest ≡ without_one hand kind → AreLiveCopies hand melds seen copies → AreLiveCopies rest melds (with_one seen kind) copies
live_same hand rest melds seen copies kind held long e are = rw e (record {
  long = are.long;
  seen_long = length-set seen kind (slice_index seen kind + 1) ∙ are.seen_long;
  at = λ k low. are.at k low ∙ same_live k;
})
  where
    same_live : (k : ℕ) → live_of hand melds seen k ≡ live_of (without_one hand kind) melds (with_one seen kind) k
    same_live k = ⊎_elim (λ low. other (λ same. omega (arith, same, low))) (λ not_low. ⊎_elim (λ high. other (λ same. omega (arith, same, high))) (λ not_high. here (omega arith)) (cases_lt kind k)) (cases_lt k kind)
      where
        other : (k ≡ kind → ⊥) → live_of hand melds seen k ≡ live_of (without_one hand kind) melds (with_one seen kind) k
        other ne =
            let less = get_or-set_other hand kind k (slice_index hand kind - 1) 0 ne in
            let more = get_or-set_other seen kind k (slice_index seen kind + 1) 0 ne in
            omega (arith, less, more)

        here : k ≡ kind → live_of hand melds seen k ≡ live_of (without_one hand kind) melds (with_one seen kind) k
        here same =
            let less = get_or-set_same hand kind (slice_index hand kind - 1) 0 (omega (arith, long, held_inside hand kind long held)) in
            let more = get_or-set_same seen kind (slice_index seen kind + 1) 0 (omega (arith, are.seen_long, held_inside hand kind long held)) in
            omega (arith, held, less, more, ap (slice_index hand) same, ap (slice_index seen) same, ap (slice_index (without_one hand kind)) same, ap (slice_index (with_one seen kind)) same)
