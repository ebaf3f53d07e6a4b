-- Seven kinds of two tiles are fourteen tiles, none or two of each kind.
use Rattle.std.proofs.Common.{◌≡◌, ℕ, zero, suc, ◌*◌, ◌↔◌, ◌⊎◌, inl, inr, true, cond, List, [], ◌∷◌, length, get_or, eqb, refl, arith, IsTrue, ◌&&◌, ◌||◌}
use Rattle.std.proofs.lemmas.Bool.{and_from, and_parts, cases_lt, eqb-true, eq-eqb}
use Rattle.std.proofs.lemmas.Bool.Decides.{nat_tests}
use Rattle.std.proofs.lemmas.List.{get_or_past}
use Rattle.std.proofs.lemmas.List.Sums.{sum_by-cons}
use Rattle.std.specs.List.{count_by, list_all, sum}
use Rattle.std.specs.Prelude.{◌==◌}
use Rattle.riichi_tiles.specs.Forms.{IsSevenPairs}
use Rattle.riichi_tiles.proofs.KindSums.{tiles-by-kind}
use Rattle.riichi_split.specs.ReadingsOf.{are_seven_pairs}

-- ---- none or two of each kind

abbrev pub ArePairs : List ℕ → Type 0
ArePairs c = (k : ℕ) → (get_or c k 0 ≡ 0) ⊎ (get_or c k 0 ≡ 2)

pub twos-from : (c : List ℕ) → list_all (λ n. eqb n 0 || eqb n 2) c ≡ true → ArePairs c
twos-from [] t k = inl refl
twos-from (n ∷ ns) t zero = grind (arith, nat_tests, (and_parts (eqb n 0 || eqb n 2) (list_all (λ m. eqb m 0 || eqb m 2) ns) t).0)
twos-from (n ∷ ns) t (suc k) = twos-from ns (and_parts (eqb n 0 || eqb n 2) (list_all (λ m. eqb m 0 || eqb m 2) ns) t).1 k

two-or-none : (n : ℕ) → (n ≡ 0) ⊎ (n ≡ 2) → (eqb n 0 || eqb n 2) ≡ true
two-or-none n (inl e) = grind (arith, nat_tests)
two-or-none n (inr e) = grind (arith, nat_tests)

pub from-twos : (c : List ℕ) → ArePairs c → list_all (λ n. eqb n 0 || eqb n 2) c ≡ true
from-twos [] h = refl
from-twos (n ∷ ns) h = and_from (eqb n 0 || eqb n 2) (list_all (λ m. eqb m 0 || eqb m 2) ns) (two-or-none n (h 0)) (from-twos ns (λ k. h (suc k)))

pub all-pairs : (c : List ℕ) → length c ≡ 34 → IsSevenPairs c → ArePairs c
all-pairs c long is k = elim (cases_lt k 34) [ inl low ↦ is.two_or_none k low | inr past ↦ inl (get_or_past c k 0 (omega (arith, long, past))) ]

-- ---- how many tiles

twice : (held : ℕ) → (held ≡ 0) ⊎ (held ≡ 2) → held ≡ 2 * cond (held == 2) 1 0
twice held either = grind (arith, nat_tests)

tiles-of-pairs : (c : List ℕ) → ArePairs c → sum c ≡ 2 * count_by (λ held. held == 2) c
tiles-of-pairs [] each = refl
tiles-of-pairs (held ∷ c) each =
    let tiles = sum_by-cons (λ held. held) held c in
    let twos = sum_by-cons (λ held. cond (held == 2) 1 0) held c in
    omega (arith, tiles, twos, twice held (each 0), tiles-of-pairs c (λ k. each (suc k)))

pub pairs-of : (c : List ℕ) → length c ≡ 34 → ArePairs c → count_by (λ held. held == 2) c ≡ 7 → IsSevenPairs c
pairs-of c long each seven = record { two_or_none = λ k low. each k; fourteen = omega (arith, tiles-by-kind c long, tiles-of-pairs c each, seven) }

pub seven-twos : (c : List ℕ) → length c ≡ 34 → IsSevenPairs c → count_by (λ held. held == 2) c ≡ 7
seven-twos c long is = omega (arith, is.fourteen, tiles-by-kind c long, tiles-of-pairs c (all-pairs c long is))

-- ---- the test

pub seven-iff : (c : List ℕ) (melds : ℕ) → length c ≡ 34 → IsTrue (are_seven_pairs c melds) ↔ ((melds ≡ 0) × IsSevenPairs c)
seven-iff c melds long =
    let twos = list_all (λ n. eqb n 0 || eqb n 2) c in
    let seven = eqb (count_by (λ n. eqb n 2) c) 7 in (
      λ t. let p = and_parts (eqb melds 0) (twos && seven) t in let q = and_parts twos seven p.1 in
          (eqb-true melds 0 p.0, pairs-of c long (twos-from c q.0) (eqb-true (count_by (λ n. eqb n 2) c) 7 q.1)),
      λ h. and_from (eqb melds 0) (twos && seven) (eq-eqb melds 0 h.0)
          (and_from twos seven (from-twos c (all-pairs c long h.1)) (eq-eqb (count_by (λ n. eqb n 2) c) 7 (seven-twos c long h.1))),
    )
