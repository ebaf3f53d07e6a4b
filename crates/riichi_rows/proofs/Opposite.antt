-- The lanes that make up so many sets and one pair with each, and what is gathered from the lanes of one sum.
use Rattle.std.proofs.Common.{◌≡◌, ℕ, zero, suc, ◌+◌, ◌-◌, ◌<◌, ◌≤◌, ◌%◌, ◌^◌, ◌⊎◌, inl, inr, min, Bool, true, false, cond, List, [], ◌∷◌, ◌++◌, map, length, get_or, ltb, eqb, bit_and, bit_or, refl, sym, ap, ap₂, ◌∙◌, subst, ⊎_elim, arith}
use Rattle.std.specs.Prelude.{◌↔◌, IsTrue, if◌then◌else◌, nat_lt, nat_le}
use Rattle.std.specs.Int.Bits.{and_zero_l}
use Rattle.std.specs.List.{range_with_len}
use Rattle.std.proofs.lemmas.Bool.{cases_lt, false≢true, eq-eqb, lt-ltb, ltb-true, or_cases, or_left, or_right}
use Rattle.std.proofs.lemmas.Bool.Decides.{nat_tests}
use Rattle.std.proofs.lemmas.List.{get_or_past, get_or-map, length-map}
use Rattle.std.proofs.lemmas.List.FromFn.{get_or-map-range_with_len, length-map-range_with_len}
use Rattle.std.proofs.lemmas.Simd.{get_or-zip2, get_or-replicate, length-replicate, length-zip2, mask_l-mod}
use lib.Lanes.{zip2, sel_l, mask_l, fold_l}
use Rattle.riichi_rows.specs.Lanes.{LaneOf, SomeLane, at_place, capped, lane, mark, opposite}
use Rattle.riichi_rows.proofs.MarkLemmas.{bit_of_both, has_bit}
use Rattle.riichi_rows.specs.Join.{SumReached}
use Rattle.riichi_rows.specs.Marks.{AreMarkedBeside, has_rank, MarkedBeside, is_marked}
use Rattle.riichi_rows.specs.declared.joined.JoinedRows.{JoinedRows}
use Rattle.riichi_rows.specs.declared.rank_set.RankSet.{RankSet}
use Rattle.riichi_rows.specs.declared.row.SuitRow.{SuitRow}
use Rattle.riichi_rows.proofs.Joins.{entry_is, entry_some, min_is, LeastTaken}
use Rattle.riichi_rows.proofs.LaneLemmas.{by_place, chosen_at, front, length_chosen, length_lesser, length_tested, lesser, lesser_at, picked, seam, sixteen, tested, tested_at}

-- ---- the lanes that stand opposite

-- where it stands, and 16 where there is none
abbrev place : ℕ → ℕ → ℕ
place sets i = if nat_lt i 8 then (if nat_le i sets then 8 + (sets - i) else 16) else (if nat_le (i - 8) sets then sets - (i - 8) else 16)

abbrev pub places : ℕ → List ℕ
places sets = map (place sets) (range_with_len 0 16)

place_within : (sets i : ℕ) → sets ≤ 4 → place sets i ≤ 16
place_within sets i few = grind (arith, nat_tests)

taken_at : (xs : List ℕ) → length xs ≡ 16 → (k : ℕ) → k ≤ 16 → get_or (xs ++ sixteen 255) k 0 ≡ get_or xs k 255
taken_at xs long k within =
    ⊎_elim (λ low. front 255 xs long k low)
    (λ high. (let last : k ≡ 16 = omega arith in subst (λ (n : ℕ). get_or (xs ++ sixteen 255) n 0 ≡ get_or xs n 255) (sym last)
    (seam 255 xs long ∙ sym (get_or_past xs 16 255 (omega arith)))))
    (cases_lt k 16)

turned_at : (xs : List ℕ) → length xs ≡ 16 → (sets i : ℕ) → sets ≤ 4 → i < 16 → get_or (picked 255 xs (places sets)) i 255 ≡ get_or xs (place sets i) 255
turned_at xs long sets i few inside =
    let all : length (places sets) ≡ 16 = length-map-range_with_len (place sets) 0 16 in
    get_or-map (λ k. get_or (xs ++ sixteen 255) k 0) (places sets) i 16 255 (omega arith)
    ∙ ap (λ k. get_or (xs ++ sixteen 255) k 0) (get_or-map-range_with_len (place sets) 0 16 i i 16 inside (omega arith))
    ∙ taken_at xs long (place sets i) (place_within sets i few)

opposite_is : (sets : ℕ) (f : ℕ → ℕ → ℕ) (s p : ℕ) → s ≤ sets → opposite sets f s p ≡ f (sets - s) (1 - p)
opposite_is sets f s p within = grind (arith, nat_tests)

opposite_none : (sets : ℕ) (f : ℕ → ℕ → ℕ) (s p : ℕ) → sets < s → opposite sets f s p ≡ 255
opposite_none sets f s p past = grind (arith, nat_tests)

module _ (xs : List ℕ) (long : length xs ≡ 16) (sets : ℕ) (few : sets ≤ 4) where
  place_plain : (s : ℕ) → s < 8 → s ≤ sets → place sets s ≡ 8 + (sets - s)
  place_plain s low within = grind (arith, nat_tests)

  place_paired : (s : ℕ) → s < 8 → s ≤ sets → place sets (8 + s) ≡ sets - s
  place_paired s low within = grind (arith, nat_tests)

  no_place_plain : (s : ℕ) → s < 8 → sets < s → place sets s ≡ 16
  no_place_plain s low past = grind (arith, nat_tests)

  no_place_paired : (s : ℕ) → s < 8 → sets < s → place sets (8 + s) ≡ 16
  no_place_paired s low past = grind (arith, nat_tests)

  pub opposite_lanes : (s p : ℕ) → s < 8 → p < 2 → lane (picked 255 xs (places sets)) s p ≡ opposite sets (lane xs) s p
  opposite_lanes s zero hs hp =
      turned_at xs long sets s few (omega arith)
      ∙ ⊎_elim (λ past. ap (λ k. get_or xs k 255) (no_place_plain s hs past) ∙ get_or_past xs 16 255 (omega arith)
      ∙ sym (opposite_none sets (lane xs) s 0 past))
      (λ within. ap (λ k. get_or xs k 255) (place_plain s hs (omega arith)) ∙ sym (opposite_is sets (lane xs) s 0 (omega arith)))
      (cases_lt sets s)
  opposite_lanes s (suc zero) hs hp =
      turned_at xs long sets (8 + s) few (omega arith)
      ∙ ⊎_elim (λ past. ap (λ k. get_or xs k 255) (no_place_paired s hs past) ∙ get_or_past xs 16 255 (omega arith)
      ∙ sym (opposite_none sets (lane xs) s 1 past))
      (λ within. ap (λ k. get_or xs k 255) (place_paired s hs (omega arith)) ∙ sym (opposite_is sets (lane xs) s 1 (omega arith)))
      (cases_lt sets s)
  opposite_lanes s (suc (suc p)) hs hp = absurd (omega arith)

-- ---- sums

abbrev pub summed : List ℕ → List ℕ → List ℕ
summed xs ys = zip2 (λ a b. (a + b) % 2 ^ 8) xs (lesser ys (map (λ a. 255 - a) xs))

module _ (xs ys : List ℕ) (lx : length xs ≡ 16) (ly : length ys ≡ 16) where
  rooms_long : length (map (λ (a : ℕ). 255 - a) xs) ≡ 16
  rooms_long = length-map xs (λ (a : ℕ). 255 - a) ∙ lx

  pub length_summed : length (summed xs ys) ≡ 16
  length_summed = length-zip2 (λ a b. (a + b) % 2 ^ 8) xs (lesser ys (map (λ a. 255 - a) xs)) (lx ∙ sym (length_lesser ys (map (λ a. 255 - a) xs) ly rooms_long)) ∙ lx

  capped_sum : (x y z : ℕ) → x ≤ 255 → z ≡ min y (255 - x) → (x + z) % 2 ^ 8 ≡ capped (x + y)
  capped_sum x y z fits e = omega arith

  summed_at : (k : ℕ) → k < 16 → get_or xs k 255 ≤ 255 → get_or (summed xs ys) k 255 ≡ capped (get_or xs k 255 + get_or ys k 255)
  summed_at k h fits =
      let long : length (lesser ys (map (λ a. 255 - a) xs)) ≡ 16 = length_lesser ys (map (λ a. 255 - a) xs) ly rooms_long in
      let room : get_or (map (λ a. 255 - a) xs) k 255 ≡ 255 - get_or xs k 255 = get_or-map (λ a. 255 - a) xs k 255 255 (omega arith) in
      let kept : get_or (lesser ys (map (λ a. 255 - a) xs)) k 255 ≡ min (get_or ys k 255) (255 - get_or xs k 255) = lesser_at ys (map (λ a. 255 - a) xs) ly rooms_long k h ∙ ap (min (get_or ys k 255)) room in
      get_or-zip2 (λ a b. (a + b) % 2 ^ 8) xs (lesser ys (map (λ a. 255 - a) xs)) k 255 255 255 (omega arith) (omega arith) ∙ capped_sum (get_or xs k 255) (get_or ys k 255) _ fits kept

  pub summed_lanes : ((k : ℕ) → k < 16 → get_or xs k 255 ≤ 255) → (s p : ℕ) → s < 8 → p < 2 → lane (summed xs ys) s p ≡ capped (lane xs s p + lane ys s p)
  summed_lanes fits s p hs hp = by_place (λ at. at 255 (summed xs ys) ≡ capped (at 255 xs + at 255 ys)) (λ k h. summed_at k h (fits k h)) s p hs

-- ---- lanes by their places

record AtPlace (lanes : List ℕ) (value : ℕ) (at : ℕ → Bool) : Type 0 where
  pub place : ℕ
  pub inside : place < 16
  pub has_value : get_or lanes place 255 ≡ value
  pub test : IsTrue (at place)

-- of a test that reads lists of sixteen at one place
module _ (lanes : List ℕ) (value : ℕ) (test : (ℕ → List ℕ → ℕ) → Bool) where
  abbrev test_at : ℕ → Bool
  test_at k = test (λ other xs. get_or xs k other)

  abbrev test_lane : ℕ → ℕ → Bool
  test_lane s p = test (λ other xs. at_place other xs s p)

  to_lane : AtPlace lanes value test_at → SomeLane lanes value test_lane
  to_lane t =
      ⊎_elim
      (λ low. record { sets = t.place; pairs = 0; few_sets = low; few_pairs = omega arith; has_value = t.has_value; test = t.test })
      (λ high.
      (let inside = t.inside in
      let same : 8 + (t.place - 8) ≡ t.place = omega (arith, high) in
      record {
        sets = t.place - 8;
        pairs = 1;
        few_sets = omega (arith, inside, high);
        few_pairs = omega arith;
        has_value = ap (λ k. get_or lanes k 255) same ∙ t.has_value;
        test = ap test_at same ∙ t.test;
      }))
      (cases_lt t.place 8)

  of_lane : SomeLane lanes value test_lane → AtPlace lanes value test_at
  of_lane t = place_of t.sets t.pairs t.few_sets t.has_value t.test
    where
      place_of : (s p : ℕ) → s < 8 → lane lanes s p ≡ value → IsTrue (test_lane s p) → AtPlace lanes value test_at
      place_of s zero hs e h = record { place = s; inside = omega arith; has_value = e; test = h }
      place_of s (suc p) hs e h = record { place = 8 + s; inside = omega arith; has_value = e; test = h }

-- ---- a mask that has some bit

record IsSet (ms : List Bool) : Type 0 where
  pub place : ℕ
  pub inside : place < length ms
  pub is : get_or ms place false ≡ true

mask_some : (ms : List Bool) → 0 < mask_l ms → IsSet ms
mask_some [] h = absurd (omega arith)
mask_some (true ∷ ms) h = record { place = 0; inside = omega arith; is = refl }
mask_some (false ∷ ms) h =
    (let t = mask_some ms (omega arith) in record { place = suc t.place; inside = omega (arith, t.inside); is = t.is })

some_mask : (ms : List Bool) (k : ℕ) → k < length ms → get_or ms k false ≡ true → 0 < mask_l ms
some_mask [] k h is = absurd (omega arith)
some_mask (true ∷ ms) k h is = omega arith
some_mask (false ∷ ms) zero h is = absurd (false≢true is)
some_mask (false ∷ ms) (suc k) h is = (let rest = some_mask ms k (omega arith) is in omega (arith, rest))

-- ---- marks together

record HasBit (xs : List ℕ) (bit : ℕ) : Type 0 where
  pub place : ℕ
  pub inside : place < length xs
  pub is : IsTrue (has_bit (get_or xs place 0) bit)

bits_some : (bit : ℕ) (xs : List ℕ) (a : ℕ) → IsTrue (has_bit (fold_l bit_or a xs) bit) → IsTrue (has_bit a bit) ⊎ HasBit xs bit
bits_some bit [] a h = inl h
bits_some bit (x ∷ xs) a h =
    ⊎_elim
    (λ first. ⊎_elim (λ own. inl own) (λ here. inr (record { place = 0; inside = omega arith; is = here })) (or_cases (has_bit a bit) (has_bit x bit) (sym (bit_of_both a x bit) ∙ first)))
    (λ t. inr (record { place = suc t.place; inside = omega (arith, t.inside); is = t.is }))
    (bits_some bit xs (bit_or a x) h)

own_bits : (bit : ℕ) (xs : List ℕ) (a : ℕ) → IsTrue (has_bit a bit) → IsTrue (has_bit (fold_l bit_or a xs) bit)
own_bits bit [] a h = h
own_bits bit (x ∷ xs) a h = own_bits bit xs (bit_or a x) (bit_of_both a x bit ∙ or_left (has_bit a bit) (has_bit x bit) h)

some_bits : (bit : ℕ) (xs : List ℕ) (a k : ℕ) → k < length xs → IsTrue (has_bit (get_or xs k 0) bit) → IsTrue (has_bit (fold_l bit_or a xs) bit)
some_bits bit [] a k h is = absurd (omega arith)
some_bits bit (x ∷ xs) a zero h is =
    own_bits bit xs (bit_or a x) (bit_of_both a x bit ∙ or_right (has_bit a bit) (has_bit x bit) is)
some_bits bit (x ∷ xs) a (suc k) h is = some_bits bit xs (bit_or a x) k (omega arith) is

-- ---- the lanes of one sum

abbrev pub same : List ℕ → ℕ → List Bool
same xs n = tested eqb xs (sixteen n)

module _ (sums : List ℕ) (least : ℕ) (ls : length sums ≡ 16) where
  module _ (xs ys : List ℕ) (lx : length xs ≡ 16) (ly : length ys ≡ 16) where
    length_among : length (sel_l (same sums least) xs ys) ≡ 16
    length_among = length_chosen eqb sums (sixteen least) ls (length-replicate 16 least) xs ys lx ly

    among_at : (k d : ℕ) → k < 16 → get_or (sel_l (same sums least) xs ys) k d ≡ cond (eqb (get_or sums k 255) least) (get_or xs k d) (get_or ys k d)
    among_at k d h =
        chosen_at eqb sums (sixteen least) ls (length-replicate 16 least) xs ys lx ly k d h
        ∙ ap (λ (n : ℕ). cond (eqb (get_or sums k 255) n) (get_or xs k d) (get_or ys k d)) (get_or-replicate 16 k least 255 h)

  -- ---- whether some of them lacks fewer

  module _ (lacks fewer : List ℕ) (ll : length lacks ≡ 16) (lf : length fewer ≡ 16) where
    abbrev with_more : List ℕ
    with_more = sel_l (same sums least) fewer lacks

    abbrev lower : List Bool
    lower = tested ltb with_more lacks

    length_lower : length lower ≡ 16
    length_lower = length_tested ltb with_more lacks (length_among fewer lacks lf ll) ll

    lower_at : (k : ℕ) → k < 16 → get_or lower k false ≡ ltb (cond (eqb (get_or sums k 255) least) (get_or fewer k 255) (get_or lacks k 255)) (get_or lacks k 255)
    lower_at k h =
        tested_at ltb with_more lacks (length_among fewer lacks lf ll) ll k h ∙ ap (λ n. ltb n (get_or lacks k 255)) (among_at fewer lacks lf ll k 255 h)

    both_tests : (a e f l : ℕ) → ltb (cond (eqb a e) f l) l ≡ true → (a ≡ e) × (nat_lt f l ≡ true)
    both_tests a e f l h = (grind (arith, nat_tests), grind (arith, nat_tests))

    of_both : (a e f l : ℕ) → a ≡ e → nat_lt f l ≡ true → ltb (cond (eqb a e) f l) l ≡ true
    of_both a e f l same h = grind (arith, nat_tests)

    abbrev is_fewer : (ℕ → List ℕ → ℕ) → Bool
    is_fewer at = nat_lt (at 255 fewer) (at 255 lacks)

    fewer_in : IsSet lower → AtPlace sums least (test_at sums least is_fewer)
    fewer_in t =
        let inside = t.inside in
        let here : t.place < 16 = omega (arith, inside, length_lower) in
        let both = both_tests (get_or sums t.place 255) least (get_or fewer t.place 255) (get_or lacks t.place 255) (sym (lower_at t.place here) ∙ t.is) in
        record { place = t.place; inside = here; has_value = both.0; test = both.1 }

    fewer_set : (t : AtPlace sums least (test_at sums least is_fewer)) → get_or lower t.place false ≡ true
    fewer_set t = lower_at t.place t.inside ∙ of_both (get_or sums t.place 255) least (get_or fewer t.place 255) (get_or lacks t.place 255) t.has_value t.test

    mask_within : mask_l lower % 2 ^ 64 ≡ mask_l lower
    mask_within = mask_l-mod lower 64 (omega (arith, length_lower))

    pub any_fewer_is : IsTrue (nat_lt 0 (mask_l lower % 2 ^ 64)) ↔ SomeLane sums least (λ s p. nat_lt (lane fewer s p) (lane lacks s p))
    any_fewer_is = (
      λ h. to_lane sums least is_fewer (fewer_in (mask_some lower (ltb-true 0 (mask_l lower) (ap (nat_lt 0) (sym mask_within) ∙ h)))),
      λ t. (let there = of_lane sums least is_fewer t in
          let inside = there.inside in
          ap (nat_lt 0) mask_within ∙ lt-ltb 0 (mask_l lower) (some_mask lower there.place (omega (arith, inside, length_lower)) (fewer_set there))),
    )

  -- ---- the marks of all of them

  module _ (marks : List ℕ) (lm : length marks ≡ 16) (bit : ℕ) where
    abbrev kept : List ℕ
    kept = sel_l (same sums least) marks (sixteen 0)

    abbrev has_mark : (ℕ → List ℕ → ℕ) → Bool
    has_mark at = has_bit (at 0 marks) bit

    no_bit : IsTrue (has_bit 0 bit) → ⊥
    no_bit h = grind (arith, nat_tests, and_zero_l bit)

    mark_here : (k : ℕ) → (b : Bool) → eqb (get_or sums k 255) least ≡ b → k < 16 → IsTrue (has_bit (cond b (get_or marks k 0) (get_or (sixteen 0) k 0)) bit) → (get_or sums k 255 ≡ least) × IsTrue (has_bit (get_or marks k 0) bit)
    mark_here k true e inside h = (grind (arith, nat_tests), h)
    mark_here k false e inside h = absurd (no_bit (ap (λ n. has_bit n bit) (sym (get_or-replicate 16 k 0 0 inside)) ∙ h))

    marks_in : HasBit kept bit → AtPlace sums least (test_at sums least has_mark)
    marks_in t =
        let inside = t.inside in
        let here : t.place < 16 = omega (arith, inside, length_among marks (sixteen 0) lm refl) in
        let both = mark_here t.place (eqb (get_or sums t.place 255) least) refl here (ap (λ n. has_bit n bit) (sym (among_at marks (sixteen 0) lm refl t.place 0 here)) ∙ t.is) in
        record { place = t.place; inside = here; has_value = both.0; test = both.1 }

    marks_kept : (t : AtPlace sums least (test_at sums least has_mark)) → IsTrue (has_bit (get_or kept t.place 0) bit)
    marks_kept t =
        ap (λ n. has_bit n bit) (among_at marks (sixteen 0) lm refl t.place 0 t.inside ∙ ap (λ (b : Bool). cond b (get_or marks t.place 0) (get_or (sixteen 0) t.place 0)) (eq-eqb (get_or sums t.place 255) least t.has_value)) ∙ t.test

    pub marks_at_is : IsTrue (nat_lt 0 (bit_and (fold_l bit_or 0 kept) bit)) ↔ SomeLane sums least (λ s p. nat_lt 0 (bit_and (mark marks s p) bit))
    marks_at_is = (
      λ h. to_lane sums least has_mark (marks_in (⊎_elim (λ none. absurd (no_bit none)) (λ some. some) (bits_some bit kept 0 h))),
      λ t. (let there = of_lane sums least has_mark t in
          let inside = there.inside in
          some_bits bit kept 0 there.place (omega (arith, inside, length_among marks (sixteen 0) lm refl)) (marks_kept there)),
    )

-- ---- the lanes of one sum are the entries that take part

module _ (row : SuitRow) (others : JoinedRows) (sums : List ℕ) (sets least rank : ℕ) (few : sets ≤ 4) (below : least < 255) (passes : ℕ → ℕ → Bool)
    (sum : (s p : ℕ) → s < 8 → p < 2 → lane sums s p ≡ capped (lane row.entries.lacks s p + opposite sets (lane others.sums.lacks) s p))
    (is_mark : (s p : ℕ) → s < 5 → p < 2 → lane row.entries.lacks s p < 255 → IsTrue (passes s p) ↔ IsTrue (is_marked row s p rank)) where
  abbrev f : ℕ → ℕ → ℕ
  f = lane row.entries.lacks

  abbrev g : ℕ → ℕ → ℕ
  g = lane others.sums.lacks

  own : (s p : ℕ) → s < 8 → p < 2 → lane sums s p ≡ least → IsTrue (passes s p) → (sets < s) ⊎ (s ≤ sets) → MarkedBeside row others sets least rank
  own s p hs hp e h side =
      ⊎_elim
      (λ past. absurd (let whole = sum s p hs hp in let none = opposite_none sets g s p past in omega (arith, whole, none, e, below)))
      (λ within.
      (let whole = sum s p hs hp in
      let there = opposite_is sets g s p within in
      let total : f s p + g (sets - s) (1 - p) ≡ least = omega (arith, whole, there, e, below) in
      let low : f s p < 255 = omega (arith, total, below) in
      record {
        own_sets = s;
        own_pairs = p;
        other_sets = sets - s;
        other_pairs = 1 - p;
        lack = f s p;
        all_sets = omega (arith, within);
        one_pair = omega (arith, hp);
        entry = entry_some (f s p) low;
        total = total;
        marked = (is_mark s p (omega (arith, within, few)) hp low).0 h;
      }))
      side

  found : MarkedBeside row others sets least rank → SomeLane sums least passes
  found m =
      let all = m.all_sets in
      let one = m.one_pair in
      let total = m.total in
      let is = (entry_is (f m.own_sets m.own_pairs) m.lack m.entry).0 in
      let hs : m.own_sets < 8 = omega (arith, all, few) in
      let hp : m.own_pairs < 2 = omega (arith, one) in
      let there : g (sets - m.own_sets) (1 - m.own_pairs) ≡ g m.other_sets m.other_pairs = ap₂ g (omega (arith, all)) (omega (arith, one)) in
      let beside = opposite_is sets g m.own_sets m.own_pairs (omega (arith, all)) in
      let whole = sum m.own_sets m.own_pairs hs hp in
      record {
        sets = m.own_sets;
        pairs = m.own_pairs;
        few_sets = hs;
        few_pairs = hp;
        has_value = omega (arith, whole, beside, there, is, total, below);
        test = (is_mark m.own_sets m.own_pairs (omega (arith, all, few)) hp (omega (arith, is, total, below))).1 m.marked;
      }

  pub taken_is : SomeLane sums least passes ↔ MarkedBeside row others sets least rank
  taken_is = (λ t. own t.sets t.pairs t.few_sets t.few_pairs t.has_value t.test (cases_lt sets t.sets), found)

pub lacked_ranks : (row : SuitRow) (others : JoinedRows) (sets least : ℕ) (set : RankSet) → IsTrue set.first ↔ MarkedBeside row others sets least 0 →
    ((r : ℕ) → r < 8 → IsTrue (nat_lt 0 (bit_and set.later (2 ^ r))) ↔ MarkedBeside row others sets least (suc r)) → AreMarkedBeside row others sets least set
lacked_ranks row others sets least set first later = record { at = each }
  where
    each : (rank : ℕ) → rank < 9 → IsTrue (has_rank set rank) ↔ MarkedBeside row others sets least rank
    each zero inside = first
    each (suc r) inside = later r (omega arith)

pub through : {A B C : Type 0} → A ↔ B → B ↔ C → A ↔ C
through x y = (λ a. y.0 (x.0 a), λ z. x.1 (y.1 z))

-- ---- the least lane

module _ (xs both : List ℕ) (n : ℕ) (at : (s : ℕ) → s < 5 → lane both s 0 ≡ min (lane xs s 0) (lane xs s 1))
    (is : n ≡ min (min (min (min (lane both 0 0) (lane both 1 0)) (lane both 2 0)) (lane both 3 0)) (lane both 4 0)) where
  below_both : (s : ℕ) → s < 5 → n ≤ lane both s 0
  below_both zero hs = omega (arith, is)
  below_both (suc zero) hs = omega (arith, is)
  below_both (suc (suc zero)) hs = omega (arith, is)
  below_both (suc (suc (suc zero))) hs = omega (arith, is)
  below_both (suc (suc (suc (suc zero)))) hs = omega (arith, is)
  below_both (suc (suc (suc (suc (suc s))))) hs = absurd (omega arith)

  pub least_bound : (s p : ℕ) → s < 5 → p < 2 → n ≤ lane xs s p
  least_bound s zero hs hp = omega (arith, below_both s hs, at s hs)
  least_bound s (suc zero) hs hp = omega (arith, below_both s hs, at s hs)
  least_bound s (suc (suc p)) hs hp = absurd (omega arith)

  reached_at : (s : ℕ) → s < 5 → n ≡ lane both s 0 → LaneOf xs n
  reached_at s hs e =
      ⊎_elim
      (λ plain. record { sets = s; pairs = 0; few_sets = hs; few_pairs = omega arith; has_value = sym plain ∙ sym (at s hs) ∙ sym e })
      (λ paired. record { sets = s; pairs = 1; few_sets = hs; few_pairs = omega arith; has_value = sym paired ∙ sym (at s hs) ∙ sym e })
      (min_is (lane xs s 0) (lane xs s 1))

  pub least_reached : LaneOf xs n
  least_reached =
      let two = min (lane both 0 0) (lane both 1 0) in
      let three = min two (lane both 2 0) in
      let four = min three (lane both 3 0) in
      ⊎_elim
      (λ e4. ⊎_elim
      (λ e3. ⊎_elim
      (λ e2. ⊎_elim (λ e1. reached_at 0 (omega arith) (is ∙ e4 ∙ e3 ∙ e2 ∙ e1)) (λ e1. reached_at 1 (omega arith) (is ∙ e4 ∙ e3 ∙ e2 ∙ e1)) (min_is (lane both 0 0) (lane both 1 0)))
      (λ e2. reached_at 2 (omega arith) (is ∙ e4 ∙ e3 ∙ e2)) (min_is two (lane both 2 0)))
      (λ e3. reached_at 3 (omega arith) (is ∙ e4 ∙ e3)) (min_is three (lane both 3 0)))
      (λ e4. reached_at 4 (omega arith) (is ∙ e4)) (min_is four (lane both 4 0))

-- the sums of lanes with those that stand opposite
pub opposite_sums : (f g : ℕ → ℕ → ℕ) (opposites sums : List ℕ) (sets : ℕ) → ((s p : ℕ) → s < 8 → p < 2 → lane sums s p ≡ capped (f s p + lane opposites s p)) → ((s p : ℕ) → s < 8 → p < 2 → lane opposites s p ≡ opposite sets g s p)
    → (s p : ℕ) → s < 8 → p < 2 → lane sums s p ≡ capped (f s p + opposite sets g s p)
opposite_sums f g opposites sums sets added turned s p hs hp = added s p hs hp ∙ ap (λ n. capped (f s p + n)) (turned s p hs hp)

module _ (f g : ℕ → ℕ → ℕ) (sums : List ℕ) (sets n : ℕ) (few : sets ≤ 4) (sum : (s p : ℕ) → s < 8 → p < 2 → lane sums s p ≡ capped (f s p + opposite sets g s p))
    (bound : (s p : ℕ) → s < 5 → p < 2 → n ≤ lane sums s p) (at : LaneOf sums n) where
  sum_at : (s p : ℕ) → s ≤ sets → p < 2 → lane sums s p ≡ capped (f s p + g (sets - s) (1 - p))
  sum_at s p within hp = sum s p (omega (arith, within, few)) hp ∙ ap (λ m. capped (f s p + m)) (opposite_is sets g s p within)

  least_in : (s p s' p' : ℕ) → s + s' ≡ sets → p + p' ≡ 1 → n ≤ f s p + g s' p'
  least_in s p s' p' all one =
      let there : g (sets - s) (1 - p) ≡ g s' p' = ap₂ g (omega (arith, all)) (omega (arith, one)) in
      omega (arith, bound s p (omega (arith, all, few)) (omega (arith, one)), sum_at s p (omega (arith, all)) (omega (arith, one)), there)

  sum_reached : (s p : ℕ) → s < 5 → p < 2 → lane sums s p ≡ n → n < 255 → (sets < s) ⊎ (s ≤ sets) → SumReached f g sets 1 n
  sum_reached s p hs hp e low side =
      ⊎_elim
      (λ past. absurd (let whole = sum s p (omega (arith, hs)) hp in let none = opposite_none sets g s p past in omega (arith, whole, none, e, low)))
      (λ within.
      (let whole = sum_at s p within hp in
      record { left_sets = s; left_pairs = p; right_sets = sets - s; right_pairs = 1 - p; sets = omega (arith, within); pairs = omega (arith, hp); value = omega (arith, whole, e, low) }))
      side

  pub taken_least : LeastTaken f g sets n
  taken_least = record {
    bound = least_in;
    reached = λ low. sum_reached at.sets at.pairs at.few_sets at.few_pairs at.has_value low (cases_lt sets at.sets);
  }
