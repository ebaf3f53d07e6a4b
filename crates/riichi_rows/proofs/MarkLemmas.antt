-- What the operations on marked lanes give at one lane.
use Rattle.std.proofs.Common.{◌≡◌, ℕ, zero, suc, ◌+◌, ◌-◌, ◌<◌, ◌≤◌, ◌/◌, min, Bool, cond, List, length, get_or, leb, nat_lt, bit_and, bit_or, refl, sym, ap, ap₂, ◌∙◌, subst, ⊎_elim, eq-zero-or-pos, arith, false}
use Rattle.std.proofs.lemmas.Bool.{cases_order, le-leb, lt-leb, false≢true, lt-ltb}
use Rattle.std.proofs.lemmas.Bool.Decides.{nat_tests}
use Rattle.std.proofs.lemmas.Nat.{and_or_apart, and_or_self, or_comm, or_shr}
use Rattle.std.proofs.lemmas.Simd.{get_or-zip2, get_or-replicate, length-replicate, length-zip2}
use Rattle.std.specs.Prelude.{if◌then◌else◌, ◌&&◌, ◌||◌, IsTrue, nat_lt, bit_and, bit_or}
use lib.Arith.{bin_ind}
use lib.Bits.{and_step, or_step, and_zero_r, or_zero_r}
use lib.Lanes.{zip2, sel_l}
use Rattle.riichi_rows.specs.Open.{IsMarkOf}
use Rattle.riichi_rows.specs.Lanes.{lane, HasLanes, with_set, with_pair, capped, Agree, HasRoomForFour, mark, lack_with, lacks_with}
use Rattle.riichi_rows.proofs.LaneLemmas.{by_place, chosen_at, length_chosen, no_set, pair_moved, pair_order, picked, set_more, set_order, sixteen, tested}
use Rattle.std.specs.Int.Bits.{and_zero_l}

abbrev pub Sound : List ℕ → List ℕ → Type 0
Sound lacks marks = (s p : ℕ) → s < 5 → p < 2 → lane lacks s p ≡ 0 → mark marks s p ≡ 0

-- ---- marks that move

module _ (lacks result ms : List ℕ) (long : length ms ≡ 16) where
  module _ (has : HasLanes result (with_set (lane lacks))) where
    pub set_marked : (bit : ℕ) → Agree (lacks_with bit result (picked 0 ms set_order)) (with_set (lacks_with bit lacks ms))
    set_marked bit zero p hs hp = ap₂ (lack_with bit) (has zero p hs hp) (no_set 0 ms long p)
    set_marked bit (suc s) p hs hp = ap₂ (lack_with bit) (has (suc s) p hs hp) (set_more 0 ms long s p hs)

    pub set_sound : Sound lacks ms → Sound result (picked 0 ms set_order)
    set_sound sound zero p hs hp none = no_set 0 ms long p
    set_sound sound (suc s) p hs hp none = set_more 0 ms long s p hs ∙ sound s p (omega arith) hp (sym (has (suc s) p hs hp) ∙ none)

  module _ (has : HasLanes result (with_pair (lane lacks))) where
    pub pair_marked : (bit : ℕ) → Agree (lacks_with bit result (picked 0 ms pair_order)) (with_pair (lacks_with bit lacks ms))
    pair_marked bit s zero hs hp = ap₂ (lack_with bit) (has s zero hs hp) (pair_moved 0 ms long s hs).0
    pair_marked bit s (suc zero) hs hp = ap₂ (lack_with bit) (has s (suc zero) hs hp) (pair_moved 0 ms long s hs).1
    pair_marked bit s (suc (suc p)) hs hp = absurd (omega arith)

    pub pair_sound : Sound lacks ms → Sound result (picked 0 ms pair_order)
    pair_sound sound s zero hs hp none = (pair_moved 0 ms long s hs).0
    pair_sound sound s (suc zero) hs hp none = (pair_moved 0 ms long s hs).1 ∙ sound s zero hs (omega arith) (sym (has s (suc zero) hs hp) ∙ none)
    pair_sound sound s (suc (suc p)) hs hp none = absurd (omega arith)

-- ---- bits of two marks together

pub or_keeps : (n a m : ℕ) → bit_and a n ≤ bit_and (bit_or a m) n
or_keeps =
    bin_ind (λ (n : ℕ). (a m : ℕ) → bit_and a n ≤ bit_and (bit_or a m) n) (λ a m. omega (arith, and_zero_r (bit_or a m), and_zero_r a))
    (λ n ih a m. let halves : bit_and (bit_or a m / 2) (n / 2) ≡ bit_and (bit_or (a / 2) (m / 2)) (n / 2) = ap (λ x. bit_and x (n / 2)) (or_shr a m 1) in
    omega (arith, halves, ih (a / 2) (m / 2), and_step (bit_or a m) n, and_step a n, or_step a m))

pub or_keeps_too : (n a m : ℕ) → bit_and m n ≤ bit_and (bit_or a m) n
or_keeps_too n a m =
    let turned : bit_and (bit_or a m) n ≡ bit_and (bit_or m a) n = ap (λ x. bit_and x n) (or_comm a m) in
    omega (arith, turned, or_keeps n m a)

-- a lack where k of the bits asked for are marked
abbrev seen : ℕ → ℕ → ℕ
seen lack k = if nat_lt lack 255 && nat_lt 0 k then lack - 1 else lack

-- ---- the better of two lacks

first_less : (a b j k : ℕ) → a < b → seen (min a b) j ≡ min (seen a j) (seen b k)
first_less a b j k h = grind (arith, nat_tests)

second_less : (a b j k : ℕ) → b < a → seen (min a b) k ≡ min (seen a j) (seen b k)
second_less a b j k h = grind (arith, nat_tests)

both_same : (a j k n : ℕ) → (j ≡ 0 → n ≡ k) → j ≤ n → k ≤ n → seen (min a a) n ≡ min (seen a j) (seen a k)
both_same a j k n h = grind (arith, nat_tests)

abbrev chosen : ℕ → ℕ → ℕ → ℕ → ℕ
chosen a b x y = bit_or (cond (leb a b) x 0) (cond (leb b a) y 0)

chosen_first : (a b x y : ℕ) → a < b → chosen a b x y ≡ x
chosen_first a b x y h = ap₂ (λ (s t : Bool). bit_or (cond s x 0) (cond t y 0)) (le-leb a b (omega arith)) (lt-leb b a h) ∙ or_zero_r x

chosen_second : (a b x y : ℕ) → b < a → chosen a b x y ≡ y
chosen_second a b x y h = ap₂ (λ (s t : Bool). bit_or (cond s x 0) (cond t y 0)) (lt-leb a b h) (le-leb b a (omega arith))

chosen_both : (a x y : ℕ) → chosen a a x y ≡ bit_or x y
chosen_both a x y = ap₂ (λ (s t : Bool). bit_or (cond s x 0) (cond t y 0)) (le-leb a a (omega arith)) (le-leb a a (omega arith))

module _ (bit x y : ℕ) where
  pub either_alone : bit_and x bit ≡ 0 → bit_and (bit_or x y) bit ≡ bit_and y bit
  either_alone none = ap (λ m. bit_and m bit) (or_comm x y) ∙ and_or_apart bit y x none

  abbrev IsBetter : ℕ → ℕ → Type 0
  IsBetter a b = lack_with bit (min a b) (chosen a b x y) ≡ min (lack_with bit a x) (lack_with bit b y)

  better_first : (a b : ℕ) → a < b → IsBetter a b
  better_first a b h = ap (lack_with bit (min a b)) (chosen_first a b x y h) ∙ first_less a b (bit_and x bit) (bit_and y bit) h

  better_second : (a b : ℕ) → b < a → IsBetter a b
  better_second a b h = ap (lack_with bit (min a b)) (chosen_second a b x y h) ∙ second_less a b (bit_and x bit) (bit_and y bit) h

  better_both : (a : ℕ) → IsBetter a a
  better_both a =
      ap (lack_with bit (min a a)) (chosen_both a x y)
      ∙ both_same a (bit_and x bit) (bit_and y bit) (bit_and (bit_or x y) bit) either_alone (or_keeps bit x y) (or_keeps_too bit x y)

  better : (a b : ℕ) → IsBetter a b
  better a b =
      ⊎_elim (λ same. subst (λ (n : ℕ). IsBetter a n) same (better_both a))
      (λ apart. ⊎_elim (better_first a b) (better_second a b) apart) (cases_order a b)

chosen_none : (a b x y : ℕ) → (a ≡ 0 → x ≡ 0) → (b ≡ 0 → y ≡ 0) → min a b ≡ 0 → chosen a b x y ≡ 0
chosen_none a b x y first second none =
    ⊎_elim (λ same. subst (λ (n : ℕ). chosen a n x y ≡ 0) same (chosen_both a x y ∙ ap₂ bit_or (first (omega arith)) (second (omega arith))))
    (λ apart. ⊎_elim (λ less. chosen_first a b x y less ∙ first (omega arith)) (λ less. chosen_second a b x y less ∙ second (omega arith)) apart) (cases_order a b)

-- the marks that stand beside the lesser of two lacks
abbrev kept : List ℕ → List ℕ → List ℕ → List ℕ
kept xs ys ms = sel_l (tested leb xs ys) ms (sixteen 0)

abbrev both_kept : List ℕ → List ℕ → List ℕ → List ℕ → List ℕ
both_kept xs ys ms ns = zip2 bit_or (kept xs ys ms) (kept ys xs ns)

module _ (xs ys ms : List ℕ) (lx : length xs ≡ 16) (ly : length ys ≡ 16) (lm : length ms ≡ 16) where
  length_kept : length (kept xs ys ms) ≡ 16
  length_kept = length_chosen leb xs ys lx ly ms (sixteen 0) lm refl

  kept_at : (k : ℕ) → k < 16 → get_or (kept xs ys ms) k 0 ≡ cond (leb (get_or xs k 255) (get_or ys k 255)) (get_or ms k 0) 0
  kept_at k h =
      chosen_at leb xs ys lx ly ms (sixteen 0) lm refl k 0 h
      ∙ ap (λ (m : ℕ). cond (leb (get_or xs k 255) (get_or ys k 255)) (get_or ms k 0) m) (get_or-replicate 16 k 0 0 h)

module _ (xs ys ms ns : List ℕ) (lx : length xs ≡ 16) (ly : length ys ≡ 16) (lm : length ms ≡ 16) (ln : length ns ≡ 16) where
  pub length_both_kept : length (both_kept xs ys ms ns) ≡ 16
  length_both_kept = length-zip2 bit_or (kept xs ys ms) (kept ys xs ns) (length_kept xs ys ms lx ly lm ∙ sym (length_kept ys xs ns ly lx ln)) ∙ length_kept xs ys ms lx ly lm

  both_at : (k : ℕ) → k < 16 → get_or (both_kept xs ys ms ns) k 0 ≡ chosen (get_or xs k 255) (get_or ys k 255) (get_or ms k 0) (get_or ns k 0)
  both_at k h =
      get_or-zip2 bit_or (kept xs ys ms) (kept ys xs ns) k 0 0 0 (omega (arith, length_kept xs ys ms lx ly lm, h)) (omega (arith, length_kept ys xs ns ly lx ln, h))
      ∙ ap₂ bit_or (kept_at xs ys ms lx ly lm k h) (kept_at ys xs ns ly lx ln k h)

  both_lane : (s p : ℕ) → s < 5 → mark (both_kept xs ys ms ns) s p ≡ chosen (lane xs s p) (lane ys s p) (mark ms s p) (mark ns s p)
  both_lane s p hs = by_place (λ at. at 0 (both_kept xs ys ms ns) ≡ chosen (at 255 xs) (at 255 ys) (at 0 ms) (at 0 ns)) both_at s p (omega arith)

  module _ (result : List ℕ) (has : HasLanes result (λ s p. min (lane xs s p) (lane ys s p))) where
    pub or_marked : (bit : ℕ) → Agree (lacks_with bit result (both_kept xs ys ms ns)) (λ s p. min (lacks_with bit xs ms s p) (lacks_with bit ys ns s p))
    or_marked bit s p hs hp = ap₂ (lack_with bit) (has s p hs hp) (both_lane s p hs) ∙ better bit (mark ms s p) (mark ns s p) (lane xs s p) (lane ys s p)

    pub or_sound : Sound xs ms → Sound ys ns → Sound result (both_kept xs ys ms ns)
    or_sound first second s p hs hp none =
        both_lane s p hs ∙ chosen_none (lane xs s p) (lane ys s p) (mark ms s p) (mark ns s p) (first s p hs hp) (second s p hs hp) (sym (has s p hs hp) ∙ none)

-- ---- more tiles lacking

none_seen : (a : ℕ) → seen a 0 ≡ a
none_seen a = grind (arith, nat_tests)

pub as_it_is : (a x : ℕ) → lack_with 0 a x ≡ a
as_it_is a x = ap (seen a) (and_zero_r x) ∙ none_seen a

others_seen : (a t k : ℕ) → (a ≡ 0 → k ≡ 0) → (t < 255 → t ≤ 4) → HasRoomForFour a → seen (capped (a + t)) k ≡ capped (seen a k + t)
others_seen a t k sound few_tiles few = grind (arith, nat_tests)

own_seen : (a t k n : ℕ) → (0 < t → 0 < n) → (t ≡ 0 → n ≡ k) → (t < 255 → t ≤ 4) → HasRoomForFour a → (t ≡ 0 → seen a k ≡ a) → seen (capped (a + t)) n ≡ capped (a + (if nat_lt t 255 then t - 1 else 255))
own_seen a t k n some none few_tiles few is_same = grind (arith, nat_tests)

abbrev marked_all : List ℕ → ℕ → List ℕ
marked_all ms m = zip2 bit_or ms (sixteen m)

module _ (ms : List ℕ) (m : ℕ) (long : length ms ≡ 16) where
  pub length_marked_all : length (marked_all ms m) ≡ 16
  length_marked_all = length-zip2 bit_or ms (sixteen m) (long ∙ sym (length-replicate 16 m)) ∙ long

  marked_at : (k : ℕ) → k < 16 → get_or (marked_all ms m) k 0 ≡ bit_or (get_or ms k 0) m
  marked_at k h =
      let all : length (sixteen m) ≡ 16 = length-replicate 16 m in
      get_or-zip2 bit_or ms (sixteen m) k 0 0 0 (omega arith) (omega arith) ∙ ap (bit_or (get_or ms k 0)) (get_or-replicate 16 k m 0 h)

  marked_lane : (s p : ℕ) → s < 5 → mark (marked_all ms m) s p ≡ bit_or (mark ms s p) m
  marked_lane s p hs = by_place (λ at. at 0 (marked_all ms m) ≡ bit_or (at 0 ms) m) marked_at s p (omega arith)

  module _ (lacks result : List ℕ) (bit tiles : ℕ) (is : IsMarkOf bit tiles m) (sound : Sound lacks ms) (has : HasLanes result (λ s p. capped (lane lacks s p + tiles))) where
    pub more_sound : Sound result (marked_all ms m)
    more_sound s p hs hp none =
        let sum = sym (has s p hs hp) ∙ none in
        marked_lane s p hs ∙ ap₂ bit_or (sound s p hs hp (omega (arith, sum))) (is.1 (omega (arith, sum)))

    shares_none : (other : ℕ) → bit_and bit other ≡ 0 → bit_and m other ≡ 0
    shares_none other apart =
        ⊎_elim (λ zero_tiles. ap (λ x. bit_and x other) (is.1 zero_tiles)) (λ some. ap (λ x. bit_and x other) (is.0 some) ∙ apart) (eq-zero-or-pos tiles)

    module _ (s p : ℕ) (hs : s < 5) (hp : p < 2) where
      here : (asked : ℕ) → lacks_with asked result (marked_all ms m) s p ≡ lack_with asked (capped (lane lacks s p + tiles)) (bit_or (mark ms s p) m)
      here asked = ap₂ (lack_with asked) (has s p hs hp) (marked_lane s p hs)

      few_as_it_is : HasRoomForFour (lacks_with 0 lacks ms s p) → HasRoomForFour (lane lacks s p)
      few_as_it_is few = subst HasRoomForFour (as_it_is (lane lacks s p) (mark ms s p)) few

      pub more_of_others : (other : ℕ) → bit_and bit other ≡ 0 → (tiles < 255 → tiles ≤ 4) → HasRoomForFour (lacks_with 0 lacks ms s p)
          → lacks_with other result (marked_all ms m) s p ≡ capped (lacks_with other lacks ms s p + tiles)
      more_of_others other apart few_tiles few =
          here other
          ∙ ap (seen (capped (lane lacks s p + tiles))) (and_or_apart other (mark ms s p) m (shares_none other apart))
          ∙ others_seen (lane lacks s p) tiles (bit_and (mark ms s p) other) (λ none. ap (λ x. bit_and x other) (sound s p hs hp none)) few_tiles (few_as_it_is few)

      own_some : 0 < bit → 0 < tiles → 0 < bit_and (bit_or (mark ms s p) m) bit
      own_some positive some =
          let whole : bit_and (bit_or (mark ms s p) m) bit ≡ bit = ap (λ x. bit_and (bit_or (mark ms s p) x) bit) (is.0 some) ∙ and_or_self bit (mark ms s p) in
          omega (arith, whole, positive)

      own_none : tiles ≡ 0 → bit_and (bit_or (mark ms s p) m) bit ≡ bit_and (mark ms s p) bit
      own_none none = ap (λ x. bit_and (bit_or (mark ms s p) x) bit) (is.1 none) ∙ ap (λ x. bit_and x bit) (or_zero_r (mark ms s p))

      pub more_of_its_own : 0 < bit → (tiles < 255 → tiles ≤ 4) → HasRoomForFour (lacks_with 0 lacks ms s p) → (tiles ≡ 0 → lacks_with bit lacks ms s p ≡ lacks_with 0 lacks ms s p)
          → lacks_with bit result (marked_all ms m) s p ≡ capped (lacks_with 0 lacks ms s p + (if nat_lt tiles 255 then tiles - 1 else 255))
      more_of_its_own positive few_tiles few is_same =
          let plain = as_it_is (lane lacks s p) (mark ms s p) in
          here bit
          ∙ own_seen (lane lacks s p) tiles (bit_and (mark ms s p) bit) (bit_and (bit_or (mark ms s p) m) bit) (own_some positive) own_none few_tiles (few_as_it_is few) (λ none. is_same none ∙ plain)
          ∙ ap (λ x. capped (x + (if nat_lt tiles 255 then tiles - 1 else 255))) (sym plain)

-- ---- marks that are gathered bit by bit, and those of the entries that take part

abbrev pub has_bit : ℕ → ℕ → Bool
has_bit marks bit = nat_lt 0 (bit_and marks bit)

none_is : (n : ℕ) → n ≡ 0 → nat_lt 0 n ≡ false
none_is n h = grind (arith, nat_tests)

-- a bit of two marks together is one of either
pub bit_of_both : (x y bit : ℕ) → has_bit (bit_or x y) bit ≡ (has_bit x bit || has_bit y bit)
bit_of_both x y bit =
    ⊎_elim
    (λ none. (let alone = either_alone bit x y none in let first = none_is _ none in let whole : has_bit (bit_or x y) bit ≡ has_bit y bit = ap (nat_lt 0) alone in whole ∙ sym (ap (λ (b : Bool). b || has_bit y bit) first)))
    (λ some. (let kept = or_keeps bit x y in lt-ltb 0 _ (omega (arith, some, kept)) ∙ sym (ap (λ (b : Bool). b || has_bit y bit) (lt-ltb 0 _ some))))
    (eq-zero-or-pos (bit_and x bit))

-- a mark that is below none and above nothing lowers the lack
pub lowered : (bit lack here : ℕ) → lack < 255 → (lack ≡ 0 → here ≡ 0) → IsTrue (has_bit here bit) → IsTrue (nat_lt (lack_with bit lack here) lack)
lowered bit lack here low sound marked = ⊎_elim (λ none. absurd (unmarked none)) (λ some. grind (arith, nat_tests)) (eq-zero-or-pos lack)
  where
    unmarked : lack ≡ 0 → ⊥
    unmarked none = false≢true (sym (none_is (bit_and here bit) (ap (λ (n : ℕ). bit_and n bit) (sound none) ∙ and_zero_l bit)) ∙ marked)

pub is_lowered : (bit lack here : ℕ) → IsTrue (nat_lt (lack_with bit lack here) lack) → IsTrue (has_bit here bit)
is_lowered bit lack here less = grind (arith, nat_tests)
