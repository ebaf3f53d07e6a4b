-- One rank in front of the later ones, for the counts as they are and with one more tile of each rank.
use Rattle.std.proofs.Common.{◌≡◌, ℕ, zero, suc, ◌+◌, ◌*◌, ◌-◌, ◌^◌, ◌<◌, ◌≤◌, Bool, List, [], ◌∷◌, drop, get_or, length, sym, subst, ap, ◌∙◌, ⊎_elim, inl, inr, arith, set}
use Rattle.std.specs.Prelude.{◌⊎◌, ◌≢◌, bit_and, slice_index}
use Rattle.std.specs.Int.Bits.{and_zero_r}
use Rattle.std.proofs.Math.Seq.{drop-cons}
use Rattle.std.proofs.lemmas.Bool.{cases_lt}
use Rattle.std.proofs.lemmas.Bool.Decides.{nat_tests}
use Rattle.std.proofs.lemmas.List.{drop_all, length-drop, drop-set, drop-set-lt, get_or-drop, get_or-set_other, length-set, drop-set-add}
use Rattle.std.proofs.lemmas.Nat.{pow_apart}
use Rattle.riichi_rows.specs.Columns.{AreLeast, Column, Fits, lack_from, LeastFrom}
use Rattle.riichi_rows.specs.Lanes.{Agree, lack_with, lane, mark}
use Rattle.riichi_rows.specs.Open.{AreFew, Begun, FewBegun, FewOpen, LeastBegun, LeastOpen, SameBegun, SameOpen}
use Rattle.riichi_rows.specs.Open as table
use Rattle.riichi_rows.specs.Ranks.{AreRanks, HoldsFrom, OpenLeast, one_more, AreSuitLanes}
use Rattle.riichi_rows.specs.Seen.{begun_seen, open_seen, seen}
use Rattle.riichi_rows.specs.declared.marked_lanes.MarkedLanes.{MarkedLanes}
use Rattle.riichi_rows.specs.declared.open.Begun as code
use Rattle.riichi_rows.specs.declared.open.Open as open_code
use Rattle.riichi_rows.proofs.MarkLemmas.{as_it_is}
use Rattle.riichi_rows.specs.declared.open.Open.{Open}

-- ---- what is reached is little

abbrev pub AreCaps : List ℕ → Type 0
AreCaps caps = (r : ℕ) → r < length caps → get_or caps r 0 ≤ 4

lack_little : (runs : Bool) (counts caps : List ℕ) (a b : ℕ) (xs : List Column) → AreCaps caps → Fits runs caps a b xs → lack_from counts a b xs ≤ 4 * length caps
lack_little runs counts caps a b [] few fits = omega arith
lack_little runs [] caps a b (x ∷ xs) few fits = omega arith
lack_little runs (have ∷ counts) [] a b (x ∷ xs) few fits = absurd fits
lack_little runs (have ∷ counts) (cap ∷ caps) a b (x ∷ xs) few fits =
    let rest = lack_little runs counts caps x.runs a xs (λ r low. few (suc r) (omega (arith, low))) fits.2 in
    let here = few 0 (omega arith) in
    let in_cap = fits.0 in
    omega (arith, rest, here, in_cap)

module _ (runs : Bool) (counts caps : List ℕ) (few : AreCaps caps) (short : length caps ≤ 9) where
  -- a lack that is reached is small
  pub reached_small : (a b s p v : ℕ) → LeastFrom runs counts caps a b s p v → v < 255 → v ≤ 36
  reached_small a b s p v least low =
      let found = least.reached low in
      omega (arith, lack_little runs counts caps a b found.columns few found.fits, found.lacks, short)

  pub are_few : (a b : ℕ) (f : ℕ → ℕ → ℕ) → AreLeast runs counts caps a b f → AreFew f
  are_few a b f least s p hs hp low = omega (arith, reached_small a b s p (f s p) (least.at s p hs hp) low)

pub few_begun : (runs : Bool) (counts caps : List ℕ) → AreCaps caps → length caps ≤ 9 → (a : ℕ) (x : Begun) → LeastBegun runs counts caps a x → FewBegun x
few_begun runs counts caps few short a x least = record {
  zero = are_few runs counts caps few short 0 a x.zero least.zero_begun;
  one = are_few runs counts caps few short 1 a x.one least.one_begun;
  two = are_few runs counts caps few short 2 a x.two least.two_begun;
}

pub few_open : (runs : Bool) (counts caps : List ℕ) → AreCaps caps → length caps ≤ 9 → (x : table.Open) → LeastOpen runs counts caps x → FewOpen x
few_open runs counts caps few short x least = record {
  zero = few_begun runs counts caps few short 0 x.zero least.zero_open;
  one = few_begun runs counts caps few short 1 x.one least.one_open;
  two = few_begun runs counts caps few short 2 x.two least.two_open;
}

-- ---- a bit that marks no rank yet changes nothing

lack_or_less : (bit lack here : ℕ) → lack_with bit lack here ≤ lack
lack_or_less bit lack here = grind (arith, nat_tests)

none_as_it_is : (bit lack here : ℕ) → 255 ≤ lack → lack_with bit lack here ≡ lack
none_as_it_is bit lack here large = grind (arith, nat_tests)

same_value : (runs : Bool) (counts caps : List ℕ) (a b s p bit lack here : ℕ) → LeastFrom runs counts caps a b s p (lack_with bit lack here) → LeastFrom runs counts caps a b s p (lack_with 0 lack here) →
    lack_with bit lack here ≡ lack_with 0 lack here
same_value runs counts caps a b s p bit lack here one plain = ⊎_elim (λ low. below low) (λ high. none_as_it_is bit lack here high ∙ sym (as_it_is lack here)) (cases_lt lack 255)
  where
    below : lack < 255 → lack_with bit lack here ≡ lack_with 0 lack here
    below low =
        let is = as_it_is lack here in
        let less = lack_or_less bit lack here in
        let found = one.reached (omega (arith, less, low)) in
        let bound = plain.least found.columns found.fits found.has_sets found.has_pairs in
        let reached = found.lacks in
        omega (arith, is, less, bound, reached)

same_seen : (runs : Bool) (counts caps : List ℕ) (a b bit : ℕ) (x : MarkedLanes) → AreLeast runs counts caps a b (seen bit x) → AreLeast runs counts caps a b (seen 0 x) → Agree (seen bit x) (seen 0 x)
same_seen runs counts caps a b bit x one plain s p hs hp = same_value runs counts caps a b s p bit (lane x.lacks.lacks s p) (mark x.marks s p) (one.at s p hs hp) (plain.at s p hs hp)

same_begun : (runs : Bool) (counts caps : List ℕ) (a bit : ℕ) (x : code.Begun) → LeastBegun runs counts caps a (begun_seen bit x) → LeastBegun runs counts caps a (begun_seen 0 x) → SameBegun (begun_seen bit x) (begun_seen 0 x)
same_begun runs counts caps a bit x one plain = record {
  zero = same_seen runs counts caps 0 a bit x.zero one.zero_begun plain.zero_begun;
  one = same_seen runs counts caps 1 a bit x.one one.one_begun plain.one_begun;
  two = same_seen runs counts caps 2 a bit x.two one.two_begun plain.two_begun;
}

pub same_open : (runs : Bool) (counts caps : List ℕ) (bit : ℕ) (x : open_code.Open) → LeastOpen runs counts caps (open_seen bit x) → LeastOpen runs counts caps (open_seen 0 x) → SameOpen (open_seen bit x) (open_seen 0 x)
same_open runs counts caps bit x one plain = record {
  zero = same_begun runs counts caps 0 bit x.zero one.zero_open plain.zero_open;
  one = same_begun runs counts caps 1 bit x.one one.one_open plain.one_open;
  two = same_begun runs counts caps 2 bit x.two one.two_open plain.two_open;
}

-- ---- one rank more

pub in_front : (xs : List ℕ) (k : ℕ) → k < length xs → drop k xs ≡ get_or xs k 0 ∷ drop (k + 1) xs
in_front xs k inside = (let next : suc k ≡ k + 1 = omega arith in drop-cons xs k 0 inside ∙ ap (λ (n : ℕ). get_or xs k 0 ∷ drop n xs) next)

pub caps_from : (caps : List ℕ) (k : ℕ) → ((r : ℕ) → r < 9 → slice_index caps r ≤ 4) → length caps ≡ 9 → AreCaps (drop k caps)
caps_from caps k few long r low = (let e = get_or-drop k caps r 0 in omega (arith, e, few (k + r) (inside low)))
  where
    inside : r < length (drop k caps) → k + r < 9
    inside low = (let e = length-drop k caps in omega (arith, low, long, e))

pub drop_short : (caps : List ℕ) (k : ℕ) → length caps ≡ 9 → length (drop k caps) ≤ 9
drop_short caps k long = (let e = length-drop k caps in omega (arith, long, e))

same_or_not : (a b : ℕ) → (a ≡ b) ⊎ (a ≢ b)
same_or_not a b = ⊎_elim (λ low. inr (λ e. omega (arith, e, low))) (λ high. ⊎_elim (λ low. inr (λ e. omega (arith, e, low))) (λ other. inl (omega arith)) (cases_lt b a)) (cases_lt a b)

-- L holds from the rank after k on, N from k on
module _ (counts caps : List ℕ) (long : length counts ≡ 9) (caps_long : length caps ≡ 9) (k : ℕ) (some : 0 < k) (inside : k < 9) (bit : ℕ) (is_bit : bit ≡ 2 ^ (k - 1)) (L N : List ℕ → List ℕ → ℕ → Type 0)
    (others : (other : ℕ) (cs ks : List ℕ) → bit_and bit other ≡ 0 → L cs ks other → N (get_or counts k 0 ∷ cs) (get_or caps k 0 ∷ ks) other)
    (own : (cs ks : List ℕ) → L cs ks bit → L cs ks 0 → N ((get_or counts k 0 + 1) ∷ cs) (get_or caps k 0 ∷ ks) bit) (are : HoldsFrom L (k + 1) counts caps) where
  caps_here : drop k caps ≡ get_or caps k 0 ∷ drop (k + 1) caps
  caps_here = in_front caps k (omega (arith, caps_long, inside))

  at_rank : (cs : List ℕ) (other : ℕ) → drop k cs ≡ get_or counts k 0 ∷ drop (k + 1) cs → bit_and bit other ≡ 0 → L (drop (k + 1) cs) (drop (k + 1) caps) other → N (drop k cs) (drop k caps) other
  at_rank cs other is apart least = subst (λ (ys : List ℕ). N ys (drop k caps) other) (sym is) (subst (λ (zs : List ℕ). N (get_or counts k 0 ∷ drop (k + 1) cs) zs other) (sym caps_here) (others other _ _ apart least))

  own_next : (r : ℕ) → r < 8 → suc r ≡ k → N (drop k (one_more counts (suc r))) (drop k caps) (2 ^ r)
  own_next r low same =
      let more : ℕ = get_or counts k 0 + 1 in
      let at_bit : bit ≡ 2 ^ r = is_bit ∙ ap (λ (n : ℕ). 2 ^ n) (omega (arith, same)) in
      let later : drop (k + 1) (one_more counts (suc r)) ≡ drop (k + 1) counts = drop-set-lt (k + 1) counts (suc r) (slice_index counts (suc r) + 1) (omega (arith, same)) in
      let here : drop k (one_more counts (suc r)) ≡ more ∷ drop (k + 1) counts =
      subst (λ (n : ℕ). drop n (one_more counts (suc r)) ≡ (get_or counts n 0 + 1) ∷ drop (n + 1) counts) same (drop-set counts (suc r) (slice_index counts (suc r) + 1) (omega (arith, long, low))) in
      let marked : L (drop (k + 1) counts) (drop (k + 1) caps) bit = subst (λ (n : ℕ). L (drop (k + 1) counts) (drop (k + 1) caps) n) (sym at_bit) (subst (λ (ys : List ℕ). L ys (drop (k + 1) caps) (2 ^ r)) later (are.marks r low)) in
      let least : N (more ∷ drop (k + 1) counts) (get_or caps k 0 ∷ drop (k + 1) caps) bit = own _ _ marked are.plain in
      subst (λ (n : ℕ). N (drop k (one_more counts (suc r))) (drop k caps) n) at_bit
      (subst (λ (ys : List ℕ). N ys (drop k caps) bit) (sym here) (subst (λ (zs : List ℕ). N (more ∷ drop (k + 1) counts) zs bit) (sym caps_here) least))

  other_next : (r : ℕ) → r < 8 → suc r ≢ k → N (drop k (one_more counts (suc r))) (drop k caps) (2 ^ r)
  other_next r low differ =
      let cs : List ℕ = one_more counts (suc r) in
      let long_too : length cs ≡ 9 = length-set counts (suc r) (slice_index counts (suc r) + 1) ∙ long in
      let held : get_or cs k 0 ≡ get_or counts k 0 = get_or-set_other counts (suc r) k (slice_index counts (suc r) + 1) 0 (λ e. differ (sym e)) in
      let here : drop k cs ≡ get_or counts k 0 ∷ drop (k + 1) cs = in_front cs k (omega (arith, long_too, inside)) ∙ ap (λ (n : ℕ). n ∷ drop (k + 1) cs) held in
      let apart : bit_and bit (2 ^ r) ≡ 0 = ap (λ (n : ℕ). bit_and n (2 ^ r)) is_bit ∙ pow_apart (k - 1) r (λ e. differ (omega (arith, e, some))) in
      at_rank cs (2 ^ r) here apart (are.marks r low)

  pub next_from : HoldsFrom N k counts caps
  next_from = record {
    plain = at_rank counts 0 (in_front counts k (omega (arith, long, inside))) (and_zero_r bit) are.plain;
    marks = λ r low. ⊎_elim (λ same. own_next r low same) (λ differ. other_next r low differ) (same_or_not (suc r) k);
  }

-- ---- for the tables of the code

power_some : (n : ℕ) → 0 < 2 ^ n
power_some zero = omega arith
power_some (suc n) = omega (arith, power_some n)

module _ (runs : Bool) (counts caps : List ℕ) (long : length counts ≡ 9) (caps_long : length caps ≡ 9) (few : (r : ℕ) → r < 9 → slice_index caps r ≤ 4) (k : ℕ) (some : 0 < k) (inside : k < 9) (bit : ℕ) (is_bit : bit ≡ 2 ^ (k - 1)) where
  has_bit : 0 < bit
  has_bit = (let p = power_some (k - 1) in omega (arith, p, is_bit))

  short : length (drop (k + 1) caps) ≤ 9
  short = drop_short caps (k + 1) caps_long

  pub next_open : (later : open_code.Open) (N : List ℕ → List ℕ → ℕ → Type 0) →
      ((other : ℕ) (cs ks : List ℕ) → bit_and bit other ≡ 0 → FewOpen (open_seen 0 later) → OpenLeast runs later cs ks other → N (get_or counts k 0 ∷ cs) (get_or caps k 0 ∷ ks) other) →
      ((cs ks : List ℕ) → 0 < bit → FewOpen (open_seen 0 later) → SameOpen (open_seen bit later) (open_seen 0 later) → OpenLeast runs later cs ks 0 → N ((get_or counts k 0 + 1) ∷ cs) (get_or caps k 0 ∷ ks) bit) →
      (n : ℕ) → n ≡ k + 1 → AreRanks runs n counts caps later → HoldsFrom N k counts caps
  next_open later N others own n next are =
      let there : AreRanks runs (k + 1) counts caps later = subst (λ (m : ℕ). AreRanks runs m counts caps later) next are in
      let little = few_open runs _ _ (caps_from caps (k + 1) few caps_long) short (open_seen 0 later) there.plain in
      next_from counts caps long caps_long k some inside bit is_bit (OpenLeast runs later) N (λ other cs ks apart least. others other cs ks apart little least)
      (λ cs ks marked plain. own cs ks has_bit little (same_open runs cs ks bit later marked plain) plain) there

-- after the last rank
pub nothing_left : (counts caps : List ℕ) → length counts ≡ 9 → length caps ≡ 9 → (L : List ℕ → List ℕ → ℕ → Type 0) → ((bit : ℕ) → L [] [] bit) → HoldsFrom L 9 counts caps
nothing_left counts caps long caps_long L least = record {
  plain = ended counts 0 long;
  marks = λ r low. ended (one_more counts (suc r)) (2 ^ r) (length-set counts (suc r) (slice_index counts (suc r) + 1) ∙ long);
}
  where
    ended : (cs : List ℕ) (bit : ℕ) → length cs ≡ 9 → L (drop 9 cs) (drop 9 caps) bit
    ended cs bit nine =
        subst (λ (ys : List ℕ). L ys (drop 9 caps) bit) (sym (drop_all 9 cs (omega (arith, nine))))
        (subst (λ (zs : List ℕ). L [] zs bit) (sym (drop_all 9 caps (omega (arith, caps_long)))) (least bit))

-- ---- the first rank in front of the later ones: the lanes of a whole suit

pub least_as_it_is : (runs : Bool) (counts caps : List ℕ) (x : MarkedLanes) → AreLeast runs counts caps 0 0 (seen 0 x) → AreLeast runs counts caps 0 0 (lane x.lacks.lacks)
least_as_it_is runs counts caps x least = record { at = λ s p hs hp. subst (λ (v : ℕ). LeastFrom runs counts caps 0 0 s p v) (as_it_is (lane x.lacks.lacks s p) (mark x.marks s p)) (least.at s p hs hp) }

-- what the first rank in front of the later ones lacks is small
module _ (runs : Bool) (counts caps : List ℕ) (long : length counts ≡ 9) (caps_long : length caps ≡ 9) (few : (r : ℕ) → r < 9 → slice_index caps r ≤ 4) (x : MarkedLanes)
    (least : AreLeast runs (get_or counts 0 0 ∷ drop 1 counts) (get_or caps 0 0 ∷ drop 1 caps) 0 0 (seen 0 x)) where
  of_suit : AreLeast runs counts caps 0 0 (seen 0 x)
  of_suit = subst (λ (cs : List ℕ). AreLeast runs cs caps 0 0 (seen 0 x)) (sym (in_front counts 0 (omega (arith, long))))
      (subst (λ (ks : List ℕ). AreLeast runs (get_or counts 0 0 ∷ drop 1 counts) ks 0 0 (seen 0 x)) (sym (in_front caps 0 (omega (arith, caps_long)))) least)

  pub small_lanes : (s p : ℕ) → s < 5 → p < 2 → lane x.lacks.lacks s p < 255 → lane x.lacks.lacks s p ≤ 36
  small_lanes s p hs hp low =
      reached_small runs counts caps (λ r inside. few r (omega (arith, caps_long, inside))) (omega (arith, caps_long)) 0 0 s p _ ((least_as_it_is runs counts caps x of_suit).at s p hs hp) low

-- L are the tables from the second rank on
module _ (runs : Bool) (counts caps : List ℕ) (long : length counts ≡ 9) (caps_long : length caps ≡ 9) (L : List ℕ → List ℕ → ℕ → Type 0) (all first : MarkedLanes) (have : ℕ)
    (whole : (other : ℕ) (cs ks : List ℕ) → L cs ks other → AreLeast runs (get_or counts 0 0 ∷ cs) (get_or caps 0 0 ∷ ks) 0 0 (seen other all))
    (with_first : (cs ks : List ℕ) → L cs ks 0 → AreLeast runs (have ∷ cs) (get_or caps 0 0 ∷ ks) 0 0 (seen 0 first))
    (are : HoldsFrom L 1 counts caps)
    (room : get_or counts 0 0 < 4 → have ≡ get_or counts 0 0 + 1)
    (full : 4 ≤ get_or counts 0 0 → have ≡ get_or counts 0 0) where
  of_caps : (cs : List ℕ) (values : ℕ → ℕ → ℕ) → AreLeast runs cs (get_or caps 0 0 ∷ drop 1 caps) 0 0 values → AreLeast runs cs caps 0 0 values
  of_caps cs values least = subst (λ (ks : List ℕ). AreLeast runs cs ks 0 0 values) (sym (in_front caps 0 (omega (arith, caps_long)))) least

  of_all : (cs : List ℕ) (other : ℕ) → cs ≡ get_or counts 0 0 ∷ drop 1 cs → L (drop 1 cs) (drop 1 caps) other → AreLeast runs cs caps 0 0 (seen other all)
  of_all cs other is least = subst (λ (ys : List ℕ). AreLeast runs ys caps 0 0 (seen other all)) (sym is) (of_caps _ _ (whole other _ _ least))

  of_marks : (r : ℕ) → r < 8 → AreLeast runs (one_more counts (suc r)) caps 0 0 (seen (2 ^ r) all)
  of_marks r low =
      let cs : List ℕ = one_more counts (suc r) in
      let long_too : length cs ≡ 9 = length-set counts (suc r) (slice_index counts (suc r) + 1) ∙ long in
      let held : get_or cs 0 0 ≡ get_or counts 0 0 = get_or-set_other counts (suc r) 0 (slice_index counts (suc r) + 1) 0 (λ e. omega (arith, e)) in
      of_all cs (2 ^ r) (in_front cs 0 (omega (arith, long_too)) ∙ ap (λ (n : ℕ). n ∷ drop 1 cs) held) (are.marks r low)

  of_first : AreLeast runs (have ∷ drop 1 counts) caps 0 0 (lane first.lacks.lacks)
  of_first = least_as_it_is runs _ caps first (of_caps _ _ (with_first _ _ are.plain))

  of_room : get_or counts 0 0 < 4 → AreLeast runs (one_more counts 0) caps 0 0 (lane first.lacks.lacks)
  of_room low =
      let more : ℕ = get_or counts 0 0 + 1 in
      let is : one_more counts 0 ≡ more ∷ drop 1 counts = drop-set counts 0 more (omega (arith, long)) in
      subst (λ (ys : List ℕ). AreLeast runs ys caps 0 0 (lane first.lacks.lacks)) (ap (λ (n : ℕ). n ∷ drop 1 counts) (room low) ∙ sym is) of_first

  of_full : 4 ≤ get_or counts 0 0 → AreLeast runs counts caps 0 0 (lane first.lacks.lacks)
  of_full high = subst (λ (ys : List ℕ). AreLeast runs ys caps 0 0 (lane first.lacks.lacks)) (ap (λ (n : ℕ). n ∷ drop 1 counts) (full high) ∙ sym (in_front counts 0 (omega (arith, long)))) of_first

  pub whole_suit : (small : (s p : ℕ) → s < 5 → p < 2 → lane all.lacks.lacks s p < 255 → lane all.lacks.lacks s p ≤ 36) → AreSuitLanes runs counts caps (record { all = all; first = first.lacks; small = small })
  whole_suit small = record { plain = of_all counts 0 (in_front counts 0 (omega (arith, long))) are.plain; marks = of_marks; few = of_room; many = of_full }

-- ---- ranks are told by the counts and caps from there on alone

module _ (n : ℕ) (counts others : List ℕ) (alike : drop n counts ≡ drop n others) where
  more_before : (k : ℕ) → k < n → drop n (one_more counts k) ≡ drop n (one_more others k)
  more_before k low = drop-set-lt n counts k (slice_index counts k + 1) low ∙ alike ∙ sym (drop-set-lt n others k (slice_index others k + 1) low)

  more_at : (i : ℕ) → drop n (one_more counts (n + i)) ≡ drop n (one_more others (n + i))
  more_at i =
      let held : slice_index counts (n + i) ≡ slice_index others (n + i) = sym (get_or-drop n counts i 0) ∙ ap (λ (xs : List ℕ). get_or xs i 0) alike ∙ get_or-drop n others i 0 in
      drop-set-add n counts i (slice_index counts (n + i) + 1) ∙ ap (λ (xs : List ℕ). set xs i (slice_index counts (n + i) + 1)) alike ∙
      ap (λ (h : ℕ). set (drop n others) i (h + 1)) held ∙ sym (drop-set-add n others i (slice_index others (n + i) + 1))

  pub more_alike : (k : ℕ) → drop n (one_more counts k) ≡ drop n (one_more others k)
  more_alike k = ⊎_elim (λ low. more_before k low)
      (λ high. subst (λ (m : ℕ). drop n (one_more counts m) ≡ drop n (one_more others m)) (omega (arith, high)) (more_at (k - n))) (cases_lt k n)

pub ranks_alike : (runs : Bool) (n : ℕ) (counts others caps others_caps : List ℕ) (upper : Open) → drop n counts ≡ drop n others → drop n caps ≡ drop n others_caps → AreRanks runs n counts caps upper →
    AreRanks runs n others others_caps upper
ranks_alike runs n counts others caps others_caps upper alike caps_alike are = record {
  plain = there _ _ 0 alike are.plain;
  marks = λ r low. there _ _ (2 ^ r) (more_alike n counts others alike (suc r)) (are.marks r low);
}
  where
    there : (cs os : List ℕ) (bit : ℕ) → cs ≡ os → OpenLeast runs upper cs (drop n caps) bit → OpenLeast runs upper os (drop n others_caps) bit
    there cs os bit same least = subst (λ (ks : List ℕ). OpenLeast runs upper os ks bit) caps_alike (subst (λ (xs : List ℕ). OpenLeast runs upper xs (drop n caps) bit) same least)
