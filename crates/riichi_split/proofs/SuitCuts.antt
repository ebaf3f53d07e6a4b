-- What the tiles of one suit can be cut into.
use Rattle.std.proofs.Common.{◌≡◌, ℕ, zero, suc, ◌+◌, ◌-◌, ◌*◌, ◌/◌, ◌%◌, ◌<◌, ◌≤◌, ◌↔◌, ◌⊎◌, inl, inr, Bool, true, false, IsTrue, nat_eq, List, [], ◌∷◌, length, get_or, map, set, drop, add-one, refl, sym, ◌∙◌, subst, arith}
use Rattle.std.specs.List.{list_all, range_with_len, sum}
use Rattle.std.proofs.lemmas.Bool.Decides.{nat_tests}
use Rattle.std.proofs.lemmas.Bool.{cases_lt}
use Rattle.std.proofs.lemmas.List.FromFn.{fill_by_all}
use Rattle.std.proofs.Math.Seq.{drop-cons}
use Rattle.std.proofs.lemmas.List.{length-set}
use Rattle.std.proofs.lemmas.List.Sums.{sum_by-set, sum_by-cons}
use Rattle.riichi_split.specs.SuitTiles.{OneSuit, AreCut, AreSets, AreSetsAndPair, HasPairs, HasPairOf, third_of, with_tile, without_pair}

-- ---- three equal runs are three triplets

fewer-two : (runs : Bool) (one two : ℕ) (held : List ℕ) → AreCut runs one (two + 3) held → AreCut runs one two held
fewer-two runs one two [] s = absurd (omega (arith, s))
fewer-two runs one two (h ∷ above) s = (s.0 + 1, s.1, omega (arith, s.2), s.3, s.4)

fewer-one : (runs : Bool) (one two : ℕ) (held : List ℕ) → AreCut runs (one + 3) two held → AreCut runs one two held
fewer-one runs one two [] s = absurd (omega (arith, s))
fewer-one runs one two (h ∷ above) s = (s.0 + 1, s.1, omega (arith, s.2), s.3, fewer-two runs s.1 one above s.4)

fewer : (runs : Bool) (q one many two : ℕ) (held : List ℕ) → many ≡ one + 3 * q → AreCut runs many two held → AreCut runs one two held
fewer runs zero one many two held e s = let P : ℕ → Type 0 = λ n. AreCut runs n two held in let f : many ≡ one = omega (arith, e) in subst P f s
fewer runs (suc q) one many two held e s =
    let P : ℕ → Type 0 = λ n. AreCut runs n two held in
    let f : many ≡ one + 3 * q + 3 = omega (arith, e) in
    fewer runs q one (one + 3 * q) two held refl (fewer-one runs (one + 3 * q) two held (subst P f s))

-- so what begins at the lowest rank is known by what is left over by three
pub record IsStep (runs : Bool) (one two h : ℕ) (above : List ℕ) : Type 0 where
  pub enough : one + two ≤ h
  pub may : 0 < (h - (one + two)) % 3 → IsTrue runs
  pub rest : AreCut runs ((h - (one + two)) % 3) one above

pub step-to : (runs : Bool) (one two h : ℕ) (above : List ℕ) → AreCut runs one two (h ∷ above) → IsStep runs one two h above
step-to runs one two h above s = record {
  enough = omega (arith, s.2);
  may = λ p. s.3 (omega (arith, s.2));
  rest = fewer runs (s.1 / 3) ((h - (one + two)) % 3) s.1 one above (omega (arith, s.2)) s.4;
}

pub step-from : (runs : Bool) (one two h : ℕ) (above : List ℕ) → IsStep runs one two h above → AreCut runs one two (h ∷ above)
step-from runs one two h above s = ((h - (one + two)) / 3, (h - (one + two)) % 3, omega (arith, s.enough), s.may, s.rest)

-- ---- what is left over by three

-- the number of tiles
sum-cut : (runs : Bool) (one two : ℕ) (held : List ℕ) → AreCut runs one two held → (q : ℕ) × (sum held ≡ 2 * one + two + 3 * q)
sum-cut runs one two [] s = (0, omega (arith, s))
sum-cut runs one two (h ∷ above) s = let i = sum-cut runs s.1 one above s.4 in (s.0 + s.1 + i.0, omega (arith, s.2, i.1, sum_by-cons (λ x. x) h above))

pub sum_of_sets : (tiles : OneSuit) → AreSets tiles → sum tiles.held % 3 ≡ 0
sum_of_sets tiles s = let i = sum-cut tiles.has_runs 0 0 tiles.held s in omega (arith, i.1)

pub sum_with_pair : (tiles : OneSuit) → length tiles.held ≡ 9 → AreSetsAndPair tiles → sum tiles.held % 3 ≡ 2
sum_with_pair tiles n s =
    let i = sum-cut tiles.has_runs 0 0 (set tiles.held s.rank (get_or tiles.held s.rank 0 - 2)) s.sets in
    let e = sum_by-set (λ x. x) tiles.held s.rank (get_or tiles.held s.rank 0 - 2) 0 (omega (arith, n, s.of_nine)) in
    omega (arith, i.1, e, s.two)

-- how many pairs there are beside sets
-- without tiles there are no sets
pub no_tiles : (runs : Bool) (held : List ℕ) → sum held ≡ 0 → AreCut runs 0 0 held
no_tiles runs [] none = refl
no_tiles runs (h ∷ above) none =
    let sums = sum_by-cons (λ x. x) h above in
    (0, 0, omega (arith, none, sums), λ some. absurd (omega arith), no_tiles runs above (omega (arith, none, sums)))

pub pairs_none : (tiles : OneSuit) → length tiles.held ≡ 9 → AreSets tiles → HasPairs tiles 0
pairs_none tiles nine sets = record {
  nine_ranks = nine;
  none = (λ e. sets, λ s. refl);
  one = (λ e. absurd (omega (arith, e)), λ p. absurd (omega (arith, sum_of_sets tiles sets, sum_with_pair tiles nine p)));
}

pub pairs_one : (tiles : OneSuit) → length tiles.held ≡ 9 → AreSetsAndPair tiles → HasPairs tiles 1
pairs_one tiles nine pair = record {
  nine_ranks = nine;
  none = (λ e. absurd (omega (arith, e)), λ s. absurd (omega (arith, sum_of_sets tiles s, sum_with_pair tiles nine pair)));
  one = (λ e. pair, λ p. refl);
}

pub pairs_neither : (tiles : OneSuit) → length tiles.held ≡ 9 → (AreSets tiles → ⊥) → (AreSetsAndPair tiles → ⊥) → HasPairs tiles 2
pairs_neither tiles nine sets pair = record {
  nine_ranks = nine;
  none = (λ e. absurd (omega (arith, e)), λ s. absurd (sets s));
  one = (λ e. absurd (omega (arith, e)), λ p. absurd (pair p));
}

-- the sum of the numbers
third-of-cut : (runs : Bool) (g : ℕ → ℕ) → AreCut runs 0 0 (map g (range_with_len 0 9)) → (g 1 + g 4 + g 7 + 2 * (g 2 + g 5 + g 8)) % 3 ≡ 0
third-of-cut runs g s =
    let b = s.4 in let d = b.4 in let e = d.4 in let f = e.4 in let h = f.4 in let i = h.4 in let j = i.4 in let k = j.4 in
    omega (arith, b.2, d.2, e.2, f.2, h.2, i.2, j.2, k.2, k.4)

pub third_of_sets : (tiles : OneSuit) → length tiles.held ≡ 9 → AreSets tiles → third_of tiles.held ≡ 0
third_of_sets tiles n s =
    let e = fill_by_all (λ i. get_or tiles.held i 0) tiles.held 9 0 n (λ k l. refl) in
    let P : List ℕ → Type 0 = λ xs. AreCut tiles.has_runs 0 0 xs in
    third-of-cut tiles.has_runs (λ i. get_or tiles.held i 0) (subst P e s)

-- ---- the rank of a pair

-- what the numbers leave over with one more tile of a rank; and where those beside a pair leave nothing, twice what all leave is what the pair's leaves
third-nine : (g : ℕ → ℕ) (rank : ℕ) → rank < 9 → (third_of (set (map g (range_with_len 0 9)) rank (g rank + 1)) ≡ (third_of (map g (range_with_len 0 9)) + rank) % 3)
    × (2 ≤ g rank → third_of (set (map g (range_with_len 0 9)) rank (g rank - 2)) ≡ 0 → 2 * third_of (map g (range_with_len 0 9)) % 3 ≡ rank % 3)
third-nine g zero small = (omega arith, λ two e. omega (arith, two, e))
third-nine g (suc zero) small = (omega arith, λ two e. omega (arith, two, e))
third-nine g (suc (suc zero)) small = (omega arith, λ two e. omega (arith, two, e))
third-nine g (suc (suc (suc zero))) small = (omega arith, λ two e. omega (arith, two, e))
third-nine g (suc (suc (suc (suc zero)))) small = (omega arith, λ two e. omega (arith, two, e))
third-nine g (suc (suc (suc (suc (suc zero))))) small = (omega arith, λ two e. omega (arith, two, e))
third-nine g (suc (suc (suc (suc (suc (suc zero)))))) small = (omega arith, λ two e. omega (arith, two, e))
third-nine g (suc (suc (suc (suc (suc (suc (suc zero))))))) small = (omega arith, λ two e. omega (arith, two, e))
third-nine g (suc (suc (suc (suc (suc (suc (suc (suc zero)))))))) small = (omega arith, λ two e. omega (arith, two, e))
third-nine g (suc (suc (suc (suc (suc (suc (suc (suc (suc more))))))))) small = absurd (omega (arith, small))

pub third-of-rank : (tiles : OneSuit) (pair : AreSetsAndPair tiles) → length tiles.held ≡ 9 → 2 * third_of tiles.held % 3 ≡ pair.rank % 3
third-of-rank tiles pair nine =
    let g = λ (i : ℕ). get_or tiles.held i 0 in
    let e = fill_by_all g tiles.held 9 0 nine (λ k l. refl) in
    let sets = third_of_sets (without_pair tiles pair.rank) (length-set tiles.held pair.rank (g pair.rank - 2) ∙ nine) pair.sets in
    let P : List ℕ → Type 0 = λ xs. third_of (set xs pair.rank (g pair.rank - 2)) ≡ 0 in
    (third-nine g pair.rank pair.of_nine).1 pair.two (subst P e sets)

pub pair-of : (tiles : OneSuit) (rank : ℕ) → rank < 9 → HasPairOf tiles rank → AreSetsAndPair tiles
pair-of tiles rank small h = record { rank = rank; of_nine = small; two = h.0; sets = h.1 }

-- so the pair is of one of three ranks
pub one-of-three : (tiles : OneSuit) (first : ℕ) → length tiles.held ≡ 9 → first ≡ 2 * third_of tiles.held % 3 → AreSetsAndPair tiles → HasPairOf tiles first ⊎ (HasPairOf tiles (first + 3) ⊎ HasPairOf tiles (first + 6))
one-of-three tiles first nine is pair =
    let e = third-of-rank tiles pair nine in
    let P : ℕ → Type 0 = HasPairOf tiles in
    let h : P pair.rank = (pair.two, pair.sets) in
    elim (cases_lt pair.rank 3) [
      | inl low ↦ inl (subst P (let r : pair.rank ≡ first = omega (arith, e, is, low) in r) h)
      | inr some ↦ inr (elim (cases_lt pair.rank 6) [
        | inl middle ↦ inl (subst P (let r : pair.rank ≡ first + 3 = omega (arith, e, is, some, middle) in r) h)
        | inr high ↦ inr (subst P (let r : pair.rank ≡ first + 6 = omega (arith, e, is, high, pair.of_nine) in r) h)
      ])
    ]

-- ---- one more tile

-- what the sum leaves over with one more tile of a rank
pub third-more : (tiles : OneSuit) (rank : ℕ) → length tiles.held ≡ 9 → rank < 9 → third_of (with_tile tiles rank).held ≡ (third_of tiles.held + rank) % 3
third-more tiles rank nine small =
    let g = λ (i : ℕ). get_or tiles.held i 0 in
    let e = fill_by_all g tiles.held 9 0 nine (λ k l. refl) in
    let P : List ℕ → Type 0 = λ xs. third_of (set xs rank (g rank + 1)) ≡ (third_of xs + rank) % 3 in
    subst P (sym e) (third-nine g rank small).0

-- ---- triplets alone

no-runs : (one : ℕ) → (0 < one → IsTrue false) → one ≡ 0
no-runs zero h = refl
no-runs (suc n) h = absurd (let f : false ≡ true = h (omega arith) in cc)

pub triplets-alone : (held : List ℕ) → IsTrue (list_all (λ h. nat_eq (h % 3) 0) held) ↔ AreCut false 0 0 held
triplets-alone [] = (λ t. refl, λ s. refl)
triplets-alone (h ∷ above) = let i = triplets-alone above in (
  λ t. let e : h % 3 ≡ 0 = grind (arith, nat_tests, t) in (h / 3, 0, omega (arith, e), λ p. absurd (omega (arith, p)), i.0 (grind (arith, nat_tests, t))),
  λ s.
      let none = no-runs s.1 s.3 in
      let P : ℕ → Type 0 = λ n. AreCut false n 0 above in
      let e : h % 3 ≡ 0 = omega (arith, s.2, none) in
      let r = i.1 (subst P none s.4) in
      grind (arith, nat_tests, e, r),
)

-- ---- rank by rank

-- the tiles are sets just where what is left of them from a rank on is, with the runs that began
pub record IsCutTo (runs : Bool) (held : List ℕ) (rank one two : ℕ) : Type 0 where
  pub rest : AreCut runs 0 0 held → AreCut runs one two (drop rank held)
  pub whole : AreCut runs one two (drop rank held) → AreCut runs 0 0 held
  pub one_few : one < 3
  pub two_few : two < 3

next-rank : (held : List ℕ) (rank h : ℕ) → rank < length held → h ≡ get_or held rank 0 → drop rank held ≡ h ∷ drop (rank + 1) held
next-rank held rank h l e = rw (e, add-one, drop-cons held rank 0) refl

pub cut_more : (runs : Bool) (held : List ℕ) (rank one two h begun : ℕ) → rank < length held → h ≡ get_or held rank 0 → one + two ≤ h → begun ≡ (h - (one + two)) % 3 → (0 < begun → IsTrue runs) → IsCutTo runs held rank one two → IsCutTo runs held (rank + 1) begun one
cut_more runs held rank one two h begun l e enough b may i =
    let n = next-rank held rank h l e in
    let P : List ℕ → Type 0 = λ xs. AreCut runs one two xs in
    let Q : ℕ → Type 0 = λ m. AreCut runs m one (drop (rank + 1) held) in
    record {
      rest = λ s. subst Q (sym b) (step-to runs one two h (drop (rank + 1) held) (subst P n (i.rest s))).rest;
      whole = λ s. i.whole (subst P (sym n) (step-from runs one two h (drop (rank + 1) held) (record { enough = enough; may = λ p. may (omega (arith, b)); rest = subst Q b s })));
      one_few = omega (arith, b);
      two_few = i.one_few;
    }

pub ruleset pairs_facts = (no_tiles, pairs_none, pairs_one, pairs_neither, sum_of_sets, sum_with_pair)
