-- Thirteen orphans: one tile for each kind that is missing, and one where none is held twice.
use Rattle.std.proofs.Common.{◌≡◌, ℕ, ◌+◌, ◌-◌, ◌<◌, ◌≤◌, Bool, true, false, cond, ◌⊎◌, inl, inr, List, [], ◌∷◌, ◌++◌, ◌%◌, ◌^◌, replicate, length, zero, suc, map, filter, leb, eqb, refl, sym, ap, ◌∙◌, ⊎_elim, arith}
use Rattle.std.proofs.Common as width
use Rattle.std.proofs.lemmas.Bool.{cases_lt, eqb-true}
use Rattle.std.proofs.lemmas.List.{length-map}
use Rattle.std.proofs.lemmas.Simd.{mask_l-mod, ones-mask_l, tops_compared, zip2_splat_left}
use Rattle.std.specs.Int.RustNames.{count_ones}
use lib.Lanes.{mask_l, top, zip2}
use Rattle.std.proofs.lemmas.Bool.Decides.{nat_tests}
use Rattle.std.specs.List.{range_with_len}
use Rattle.std.specs.Prelude.{count_by, slice_index, nat_le, ◌==◌}
use Rattle.riichi_tiles.specs.Melds.{every_kind}
use Rattle.riichi_shape.specs.Distance.{OrphansReached}
use Rattle.riichi_tiles.specs.Forms.{IsThirteenOrphans, orphan_copies, orphan_kinds}
use Rattle.riichi_tiles.specs.Kinds.{is_orphan}
use Rattle.riichi_shape.specs.Winning.{lacking}
use Rattle.riichi_rows.proofs.Spread.{spread, sum_range, spread_shift, table, table_at, at_same_number, spread_with}
use Rattle.riichi_tiles.proofs.Members.{IsIn, in-filter, in-filter-inv, in-range, in-range-inv}
use Rattle.riichi_shape.proofs.PairLemmas.{nil as missing_one, sum_is_total, total_of, two}

-- what a second tile costs
abbrev pub extra : ℕ → ℕ
extra h = cond (leb 2 h) 0 1

orphan_lack : (t k h : ℕ) (here : Bool) → (eqb k t ≡ true → here ≡ true) → cond here (cond (eqb k t) 2 1) 0 - h ≡ cond here (missing_one h) 0 + cond (eqb k t) (extra h) 0
orphan_lack t k h here same = grind (arith, nat_tests)

-- ---- the kind held twice

extra_is : (h : ℕ) → extra h + two h ≡ 1
extra_is h = grind (arith, nat_tests)

none_doubled : (h : ℕ → ℕ) (ks : List ℕ) (t : ℕ) → total_of two (map h ks) ≡ 0 → IsIn t ks → two (h t) ≡ 0
unfolding total_of
none_doubled h [] t none here = absurd here
none_doubled h (k ∷ ks) t none (inl first) = ap (λ k. two (h k)) (sym first) ∙ omega (arith, none)
none_doubled h (k ∷ ks) t none (inr later) = none_doubled h ks t (omega (arith, none)) later

record Doubled (h : ℕ → ℕ) (ks : List ℕ) : Type 0 where
  kind : ℕ
  among : IsIn kind ks
  twice : 0 < two (h kind)

some_doubled : (h : ℕ → ℕ) (ks : List ℕ) → 0 < total_of two (map h ks) → Doubled h ks
unfolding total_of
some_doubled h [] some = absurd (omega (arith, some))
some_doubled h (k ∷ ks) some =
    ⊎_elim (λ first. record { kind = k; among = inl refl; twice = first })
    (λ later. (let d = some_doubled h ks (omega (arith, some, later)) in record { kind = d.kind; among = inr d.among; twice = d.twice }))
    (cases_lt 0 (two (h k)))

-- each orphan is listed, and no other kind
pub listed : (t : ℕ) → t < 34 → is_orphan t ≡ true → IsIn t orphan_kinds
listed t low is = in-filter is_orphan t every_kind (in-range 34 0 t (omega arith) (omega (arith, low))) is

pub is_listed : (t : ℕ) → IsIn t orphan_kinds → (t < 34) × (is_orphan t ≡ true)
is_listed t here = let both = in-filter-inv is_orphan t every_kind here in ((in-range-inv 34 0 t both.0).1, both.1)

-- those that are missing are the rest of the thirteen
missing_or_held : (xs : List ℕ) → total_of missing_one xs + total_of (λ x. cond (leb 1 x) 1 0) xs ≡ length xs
unfolding total_of
missing_or_held [] = refl
missing_or_held (x ∷ xs) = omega (arith, one_of x, missing_or_held xs)
  where
    one_of : (x : ℕ) → missing_one x + cond (leb 1 x) 1 0 ≡ 1
    one_of x = grind (arith, nat_tests)

pub missing_count : (hand held : List ℕ) (some : ℕ) → held ≡ map (slice_index hand) orphan_kinds → some ≡ count_by (λ x. nat_le 1 x) held → 13 - some ≡ count_by (λ x. x == 0) held
missing_count hand held some are counted =
    let thirteen : length held ≡ 13 = ap length are in
    omega (arith, counted, missing_or_held held, sum_is_total missing_one held, sum_is_total (λ x. cond (leb 1 x) 1 0) held, thirteen)

-- a sum over the kinds that pass a test
filtered : (p : ℕ → Bool) (f h : ℕ → ℕ) (a n : ℕ) → spread (λ k. cond (p k) (f (h k)) 0) a n ≡ total_of f (map h (filter p (range_with_len a n)))
unfolding spread total_of
filtered p f h a zero = refl
filtered p f h a (suc n) = one (p a) _ _ (filtered p f h (a + 1) n)
  where
    one : (passes : Bool) (rest : ℕ) (ks : List ℕ) → rest ≡ total_of f (map h ks) → cond passes (f (h a)) 0 + rest ≡ total_of f (map h (cond passes (a ∷ ks) ks))
    one true rest ks same = omega (arith, same)
    one false rest ks same = omega (arith, same)

module _ (hand : List ℕ) where
  abbrev lack_of_one : ℕ → ℕ
  lack_of_one k = cond (is_orphan k) (missing_one (slice_index hand k)) 0

  missing_is : spread lack_of_one 0 34 ≡ total_of missing_one (map (slice_index hand) orphan_kinds)
  missing_is = filtered is_orphan missing_one (slice_index hand) 0 34

  pub lack_is : (t : ℕ) → t < 34 → is_orphan t ≡ true → (wanted : List ℕ) → ((k : ℕ) → k < 34 → slice_index wanted k ≡ orphan_copies t k) → lacking hand wanted ≡ total_of missing_one (map (slice_index hand) orphan_kinds) + extra (slice_index hand t)
  lack_is t low is wanted at =
      let whole = sum_range (λ k. slice_index wanted k - slice_index hand k) 0 34 in
      let same = spread_shift (λ k. slice_index wanted k - slice_index hand k) (λ k. orphan_copies t k - slice_index hand k) 0 0 34 (λ r h. ap (λ w. w - slice_index hand (0 + r)) (at (0 + r) (omega arith))) in
      let split = spread_with (λ k. orphan_copies t k - slice_index hand k) lack_of_one (λ k. extra (slice_index hand k)) t
      (λ k. orphan_lack t k (slice_index hand k) (is_orphan k) (λ e. ap is_orphan (eqb-true k t e) ∙ is)) 0 34 (omega arith) (omega (arith, low)) in
      whole ∙ same ∙ split ∙ ap (λ n. n + extra (slice_index hand t)) missing_is

  abbrev pub orphans_wanted : ℕ → List ℕ
  orphans_wanted t = table (orphan_copies t) 0 34

  pub orphans_at : (t k : ℕ) → k < 34 → slice_index (orphans_wanted t) k ≡ orphan_copies t k
  orphans_at t k h = table_at (orphan_copies t) 0 34 k h ∙ at_same_number (orphan_copies t) (0 + k) k (omega arith)

  pub are_orphans : (t n : ℕ) → t < 34 → is_orphan t ≡ true → n ≡ total_of missing_one (map (slice_index hand) orphan_kinds) + extra (slice_index hand t) → OrphansReached hand n
  are_orphans t n low is e = record {
    wanted = orphans_wanted t;
    thirteen_orphans = record { doubled = t; is_kind = low; doubles_orphan = is; at = orphans_at t };
    lacks = lack_is t low is (orphans_wanted t) (orphans_at t) ∙ sym e;
  }

  module _ (held : List ℕ) (held_are : held ≡ map (slice_index hand) orphan_kinds) (missing doubled : ℕ) (missing_are : missing ≡ count_by (λ x. x == 0) held) (doubled_are : doubled ≡ count_by (λ x. nat_le 2 x) held) where
    missing_total : missing ≡ total_of missing_one (map (slice_index hand) orphan_kinds)
    missing_total = missing_are ∙ sum_is_total missing_one held ∙ ap (λ xs. total_of missing_one xs) held_are

    doubled_total : doubled ≡ total_of two (map (slice_index hand) orphan_kinds)
    doubled_total = doubled_are ∙ sum_is_total two held ∙ ap (λ xs. total_of two xs) held_are

    pub bound_doubled : (wanted : List ℕ) → IsThirteenOrphans wanted → missing ≤ lacking hand wanted
    bound_doubled wanted is = let e = lack_is is.doubled is.is_kind is.doubles_orphan wanted is.at in omega (arith, missing_total, e)

    pub reached_doubled : 0 < doubled → OrphansReached hand missing
    reached_doubled some =
        let d = some_doubled (slice_index hand) orphan_kinds (omega (arith, some, doubled_total)) in
        let is = is_listed d.kind d.among in
        are_orphans d.kind missing is.0 is.1 (omega (arith, missing_total, d.twice, extra_is (slice_index hand d.kind)))

    pub bound_single : doubled ≤ 0 → (wanted : List ℕ) → IsThirteenOrphans wanted → missing + 1 ≤ lacking hand wanted
    bound_single none wanted is =
        let e = lack_is is.doubled is.is_kind is.doubles_orphan wanted is.at in
        let single = none_doubled (slice_index hand) orphan_kinds is.doubled (omega (arith, none, doubled_total)) (listed is.doubled is.is_kind is.doubles_orphan) in
        omega (arith, missing_total, e, single, extra_is (slice_index hand is.doubled))

    pub reached_single : doubled ≤ 0 → OrphansReached hand (missing + 1)
    reached_single none =
        let single = none_doubled (slice_index hand) orphan_kinds 0 (omega (arith, none, doubled_total)) (inl refl) in
        are_orphans 0 (missing + 1) (omega arith) refl (omega (arith, missing_total, single, extra_is (slice_index hand 0)))

    -- some orphan that is held twice, or none
    pub orphan_doubled : 0 < doubled → (k : ℕ) × (k < 34) × (is_orphan k ≡ true) × (2 ≤ slice_index hand k)
    orphan_doubled some =
        let d = some_doubled (slice_index hand) orphan_kinds (omega (arith, some, doubled_total)) in
        let is = is_listed d.kind d.among in
        (d.kind, is.0, is.1, at_least_two (slice_index hand d.kind) d.twice)
      where
        at_least_two : (h : ℕ) → 0 < two h → 2 ≤ h
        at_least_two h some = grind (arith, nat_tests)

    pub orphan_single : doubled ≤ 0 → (k : ℕ) → k < 34 → is_orphan k ≡ true → slice_index hand k ≤ 1
    orphan_single none k low is = at_most_one (slice_index hand k) (none_doubled (slice_index hand) orphan_kinds k (omega (arith, none, doubled_total)) (listed k low is))
      where
        at_most_one : (h : ℕ) → two h ≡ 0 → h ≤ 1
        at_most_one h none = grind (arith, nat_tests)

-- ---- counted side by side

-- three of nothing aren't counted
padded_total : (f : ℕ → ℕ) → f 0 ≡ 0 → (xs : List ℕ) → total_of f (xs ++ 0 ∷ 0 ∷ 0 ∷ []) ≡ total_of f xs
unfolding total_of
padded_total f free [] = omega (arith, free)
padded_total f free (x ∷ xs) = omega (arith, padded_total f free xs)

padded : (p : ℕ → Bool) → p 0 ≡ false → (xs : List ℕ) → count_by p (xs ++ 0 ∷ 0 ∷ 0 ∷ []) ≡ count_by p xs
padded p free xs =
    let one : ℕ → ℕ = λ x. cond (p x) 1 0 in
    sum_is_total one (xs ++ 0 ∷ 0 ∷ 0 ∷ []) ∙ padded_total one (ap (λ (b : Bool). cond b 1 0) free) xs ∙ sym (sum_is_total one xs)

none_is_few : (times : ℕ) → 0 < times → nat_le times 0 ≡ false
none_is_few times some = grind (arith, nat_tests)

abbrev pub often : ℕ → List ℕ → List Bool
often times xs = map (top 7) (zip2 (λ a b. cond (leb a b) 255 0) (replicate 16 times) xs)

pub held_often : (xs counts : List ℕ) (times : ℕ) → 0 < times → length xs ≡ 16 → xs ≡ counts ++ 0 ∷ 0 ∷ 0 ∷ [] → count_ones (mask_l (often times xs) % 2 ^ 64) ≡ count_by (λ held. nat_le times held) counts
held_often xs counts times some long are =
    let is : often times xs ≡ map (λ held. leb times held) xs = tops_compared width.w8 leb (replicate 16 times) xs ∙ zip2_splat_left leb times 16 xs long in
    let all : length (often times xs) ≡ 16 = ap length is ∙ length-map xs (λ (held : ℕ). leb times held) ∙ long in
    ap count_ones (mask_l-mod (often times xs) 64 (omega (arith, all))) ∙ ap (λ (ms : List Bool). count_ones (mask_l ms)) is ∙ ones-mask_l (λ held. leb times held) xs
    ∙ ap (count_by (λ held. nat_le times held)) are ∙ padded (λ held. nat_le times held) (none_is_few times some) counts
