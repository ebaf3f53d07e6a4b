-- The first yaku of a set, and the set without it.
use Rattle.std.proofs.Common.{◌≡◌, ℕ, suc, ◌+◌, ◌-◌, ◌*◌, ◌%◌, ◌^◌, ◌<◌, ◌≤◌, Bool, true, false, not, cond, inl, inr, nat_eq, w64, codes, List, [], ◌∷◌, ◌++◌, length, get_or, refl, sym, ap, ◌∙◌, append_assoc, length-append, rules, arith}
use Rattle.std.specs.Int.{bit_at, bit_not, trailing_zeros}
use Rattle.std.specs.Int.Bits.{bit_and}
use Rattle.std.specs.List.{filter, flat_map, sum_by}
use Rattle.std.proofs.lemmas.Nat.Bits.{bit_at-trailing_zeros, bit_at_above, bit_at_clear_same, bit_at_clear_other}
use Rattle.std.proofs.lemmas.Nat.{and_le_l}
use Rattle.std.proofs.lemmas.Bool.{cases_lt, cases_eq}
use Rattle.std.proofs.lemmas.List.Concat.{length-flat_map}
use Rattle.std.proofs.lemmas.List.Filters.{length-filter_both, sum_by-filter_both}
use Rattle.std.proofs.lemmas.List.Sums.{sum_by-append}
use Rattle.riichi_yaku.specs.declared.table.Yaku.{Yaku}
use Rattle.riichi_yaku.specs.declared.table.Yaku.TheVariants.{Riichi}
use Rattle.riichi_yaku.specs.Table.{every_yaku, number, han, word}
use Rattle.riichi_yaku.specs.YakuSets.{contains, yaku_in}
use Rattle.riichi_yaku.proofs.Sets.{in_table}
use Rattle.riichi_yaku.specs.declared.table.TheConstants.Yaku.{COUNT, MOST_WORDS}

-- these yaku have the numbers from a on
AreFrom : ℕ → List Yaku → Type 0
AreFrom a [] = Unit {0}
AreFrom a (yaku ∷ rest) = (number yaku ≡ a) × AreFrom (suc a) rest

-- the first of the yaku, and the rest
Has : ℕ → ℕ → Bool
Has n i = nat_eq (bit_at n i) 1

-- the same yaku where the bits are the same from a number on
same-from : (rest : List Yaku) (a n m : ℕ) → AreFrom a rest → ((i : ℕ) → a ≤ i → Has n i ≡ Has m i) → filter (contains n) rest ≡ filter (contains m) rest
unfolding AreFrom Has
same-from [] a n m from same = refl
same-from (yaku ∷ rest) a n m from same =
    ap (λ b. cond b (yaku ∷ filter (contains n) rest) (filter (contains n) rest)) (same (number yaku) (omega (arith, from.0)))
    ∙ ap (λ x. cond (contains m yaku) (yaku ∷ x) x) (same-from rest (suc a) n m from.1 (λ i l. same i (omega (arith, l))))

-- the first bit of n is that of a yaku, and m has the others
record IsFirst (k n m : ℕ) : Type 0 where
  set : Has n k ≡ true
  clear : Has m k ≡ false
  below : (i : ℕ) → i < k → Has n i ≡ false
  same : (i : ℕ) → (i ≡ k → ⊥) → Has n i ≡ Has m i

first-from : (rest : List Yaku) (a k n m : ℕ) → AreFrom a rest → a ≤ k → k < a + length rest → IsFirst k n m → filter (contains n) rest ≡ get_or rest (k - a) Riichi ∷ filter (contains m) rest
unfolding AreFrom Has
first-from [] a k n m from l u h = absurd (omega arith)
first-from (yaku ∷ rest) a k n m from l u h =
    elim (cases_eq a k) [
      | inl e ↦
          let at : number yaku ≡ k = from.0 ∙ e in
          let here : k - a ≡ 0 = omega (arith, e) in
          ap (λ b. cond b (yaku ∷ filter (contains n) rest) (filter (contains n) rest)) (ap (Has n) at ∙ h.set)
          ∙ ap (λ x. yaku ∷ x) (same-from rest (suc a) n m from.1 (λ i past. h.same i (λ q. absurd (omega (arith, past, q, e)))))
          ∙ ap (λ b. yaku ∷ cond b (yaku ∷ filter (contains m) rest) (filter (contains m) rest)) (sym (ap (Has m) at ∙ h.clear))
          ∙ ap (λ p. get_or (yaku ∷ rest) p Riichi ∷ filter (contains m) (yaku ∷ rest)) (sym here)
      | inr other ↦
          let before : number yaku < k = omega (arith, from.0, l, other) in
          let no : contains n yaku ≡ false = h.below (number yaku) before in
          let no' : contains m yaku ≡ false = sym (h.same (number yaku) (λ q. absurd (omega (arith, q, before)))) ∙ no in
          let one : k - a ≡ suc (k - suc a) = omega (arith, l, other) in
          ap (λ b. cond b (yaku ∷ filter (contains n) rest) (filter (contains n) rest)) no
          ∙ first-from rest (suc a) k n m from.1 (omega (arith, l, other)) (omega (arith, u)) h
          ∙ ap (λ b. get_or rest (k - suc a) Riichi ∷ cond b (yaku ∷ filter (contains m) rest) (filter (contains m) rest)) (sym no')
          ∙ ap (λ p. get_or (yaku ∷ rest) p Riichi ∷ filter (contains m) (yaku ∷ rest)) (sym one)
    ]

abbrev first : ℕ → ℕ
first n = trailing_zeros w64 n

abbrev without_first : ℕ → ℕ
without_first n = bit_and n (bit_not w64 (1 * 2 ^ first n % 2 ^ 64))

-- the lowest bit of a set is the number of a yaku
pub first_below : (n : ℕ) → 0 < n → n < 2 ^ COUNT → first n < COUNT
first_below n some below =
    let low = bit_at-trailing_zeros w64 n some (omega (arith, below)) in
    elim (cases_lt (first n) COUNT) [
      | inl lt ↦ lt
      | inr past ↦ let none = bit_at_above n COUNT (first n) below past in absurd (omega (arith, low.1, none))
    ]

-- a bit from 64 on is set in neither
same-bits : (n i : ℕ) → n < 2 ^ COUNT → first n < 64 → (i ≡ first n → ⊥) → bit_at n i ≡ bit_at (without_first n) i
same-bits n i below low other =
    elim (cases_lt i 64) [
      | inl lt ↦ sym (bit_at_clear_other w64 n (first n) low i lt other)
      | inr past ↦
          bit_at_above n COUNT i below (omega (arith, past))
          ∙ sym (bit_at_above (without_first n) COUNT i (omega (arith, below, and_le_l n (bit_not w64 (1 * 2 ^ first n % 2 ^ 64)))) (omega (arith, past)))
    ]

is-first : (n : ℕ) → 0 < n → n < 2 ^ COUNT → IsFirst (first n) n (without_first n)
unfolding Has
is-first n some below =
    let low = bit_at-trailing_zeros w64 n some (omega (arith, below)) in
    record {
      set = ap (λ b. nat_eq b 1) low.1;
      clear = ap (λ b. nat_eq b 1) (bit_at_clear_same w64 n (first n) low.0);
      below = λ i l. ap (λ b. nat_eq b 1) (low.2 i l);
      same = λ i other. ap (λ b. nat_eq b 1) (same-bits n i below low.0 other);
    }

table-from : AreFrom 0 every_yaku
unfolding AreFrom
table-from = search rules

-- the yaku of a set are its first and those of the set without it
pub first_yaku : (n : ℕ) (yaku : Yaku) → 0 < n → n < 2 ^ COUNT → number yaku ≡ first n → yaku_in n ≡ yaku ∷ yaku_in (without_first n)
unfolding yaku_in
first_yaku n yaku some below is =
    first-from every_yaku 0 (first n) n (without_first n) table-from (omega arith) (omega (arith, first_below n some below)) (is-first n some below)
    ∙ ap (λ y. y ∷ yaku_in (without_first n)) (ap (λ p. get_or every_yaku p Riichi) (let e : first n - 0 ≡ number yaku = omega (arith, is) in e) ∙ in_table yaku)

pub yaku_in_none : yaku_in 0 ≡ []
unfolding yaku_in
yaku_in_none = refl

-- ---- sums over the yaku of a set

pub yaku_in_most : (set : ℕ) → length (yaku_in set) ≤ COUNT
unfolding yaku_in
yaku_in_most set = omega (arith, length-filter_both (contains set) (λ yaku. not (contains set yaku)) (λ yaku. refl) every_yaku)

sum-most : (f : Yaku → ℕ) (set : ℕ) → sum_by f (yaku_in set) ≤ sum_by f every_yaku
unfolding yaku_in
sum-most f set = omega (arith, sum_by-filter_both (contains set) (λ yaku. not (contains set yaku)) (λ yaku. refl) f every_yaku)

pub han-most : (concealed : Bool) (set : ℕ) → sum_by (han concealed) (yaku_in set) ≤ 60
han-most true set = omega (arith, sum-most (han true) set)
han-most false set = omega (arith, sum-most (han false) set)

abbrev pub spaced : Yaku → List ℕ
spaced yaku = codes " " ++ word yaku

abbrev pub letters : Yaku → ℕ
letters yaku = length (spaced yaku)

pub letters-most : (set : ℕ) → sum_by letters (yaku_in set) ≤ MOST_WORDS
letters-most set = omega (arith, sum-most letters set)

pub letters-of : (text before : List ℕ) (yaku : List Yaku) → text ≡ before ++ flat_map spaced yaku → length text ≡ length before + sum_by letters yaku
letters-of text before yaku e = ap length e ∙ length-append before (flat_map spaced yaku) ∙ ap (λ n. length before + n) (length-flat_map spaced yaku)

-- ---- loops over the yaku of a set

-- some yaku were looked at, and the others are left
pub parts-next : (all before left rest : List Yaku) (yaku : Yaku) → all ≡ before ++ left → left ≡ yaku ∷ rest → all ≡ (before ++ yaku ∷ []) ++ rest
parts-next all before left rest yaku h e = h ∙ ap (λ x. before ++ x) e ∙ sym (append_assoc before (yaku ∷ []) rest)

pub sum-next : (f : Yaku → ℕ) (before : List Yaku) (yaku : Yaku) → sum_by f (before ++ yaku ∷ []) ≡ sum_by f before + f yaku
sum-next f before yaku = omega (arith, sum_by-append f before (yaku ∷ []))

pub sum-within : (f : Yaku → ℕ) (all before left rest : List Yaku) (yaku : Yaku) → all ≡ before ++ left → left ≡ yaku ∷ rest → sum_by f before + f yaku ≤ sum_by f all
sum-within f all before left rest yaku h e =
    omega (arith, ap (sum_by f) (parts-next all before left rest yaku h e), sum_by-append f (before ++ yaku ∷ []) rest, sum-next f before yaku)

pub sum-before : (f : Yaku → ℕ) (all before left : List Yaku) → all ≡ before ++ left → sum_by f before ≤ sum_by f all
sum-before f all before left h = omega (arith, ap (sum_by f) h, sum_by-append f before left)

pub ruleset next_facts = (first_below, first_yaku, yaku_in_none)
