-- Sets of kinds as numbers.
use Rattle.std.proofs.Common.{◌≡◌, ◌≢◌, ℕ, ◌+◌, ◌<◌, ◌%◌, ◌*◌, ◌≤◌, ◌^◌, Bool, true, false, cond, get_or, map, max, min, refl, sym, ap, ◌∙◌, subst, inl, inr, arith, bit_and}
use Rattle.std.proofs.lemmas.Bool.{cases_lt, cases_eq}
use Rattle.std.proofs.lemmas.Bool.Decides.{nat_tests}
use Rattle.std.proofs.lemmas.List.{get_or_past}
use Rattle.std.proofs.lemmas.List.FromFn.{get_or-map-range_with_len, length-map-range_with_len}
use Rattle.std.proofs.lemmas.List.Sums.{count_by-le-length}
use Rattle.std.proofs.lemmas.Nat.Bits.{bit_at-lt, bit_at_above, bit_at_and, bit_at-pow_other, bit_at-pow_same, bit_at_or, bit_at-zero, same_from_bits, same_from_bits_below}
use Rattle.std.proofs.lemmas.Simd.{bit_mask_l, mask_l-lt, ones-mask_l}
use Rattle.std.proofs.lemmas.Nat.{one_shl, or_comm, pow_below}
use Rattle.std.specs.Int.Bits.{or_zero_l}
use Rattle.std.specs.Int.{bit_at, from_bool}
use Rattle.std.specs.Int.RustNames.{bit_or, count_ones}
use Rattle.std.specs.Prelude.{◌==◌, ◌&&◌, ◌||◌, ◌-◌, ◌/◌, count_by, not}
use Rattle.std.specs.Cmp.{both_ways}
use Rattle.std.proofs.lemmas.Bool.{eqb-true, eq-eqb}
use Rattle.std.specs.List.{list_all, list_any}
use Rattle.std.specs.Simd.Lanes.{mask_l}
use Rattle.riichi_tiles.specs.HeldKinds.{is_held, with_kind, kinds_where}
use Rattle.riichi_tiles.specs.Kinds.{first_of, kinds_of, is_of_suit}
use Rattle.riichi_tiles.specs.Melds.{every_kind}
use Rattle.riichi_tiles.specs.declared.suit.Suit.{Suit}
use Rattle.riichi_tiles.specs.declared.suit.Suit.TheVariants.{Characters}
use Rattle.riichi_tiles.proofs.KindBits.{some-held}
use Rattle.riichi_tiles.proofs.Members.{any-agree, all-from, all-in, in-range}

both_bits : (a b : ℕ) → a < 2 → b < 2 → (min a b == 1) ≡ ((a == 1) && (b == 1))
both_bits a b low low' = grind (arith, nat_tests)

pub both_at : (a b kind : ℕ) → is_held (bit_and a b) kind ≡ (is_held a kind && is_held b kind)
unfolding is_held
both_at a b kind = ap (λ n. n == 1) (bit_at_and a b kind) ∙ both_bits (bit_at a kind) (bit_at b kind) (bit_at-lt a kind) (bit_at-lt b kind)

either_bits : (a b : ℕ) → a < 2 → b < 2 → (max a b == 1) ≡ ((a == 1) || (b == 1))
either_bits a b low low' = grind (arith, nat_tests)

pub either_at : (a b kind : ℕ) → is_held (bit_or a b) kind ≡ (is_held a kind || is_held b kind)
unfolding is_held
either_at a b kind = ap (λ n. n == 1) (bit_at_or a b kind) ∙ either_bits (bit_at a kind) (bit_at b kind) (bit_at-lt a kind) (bit_at-lt b kind)

-- ---- no kind, and one more

pub none_at : (kind : ℕ) → is_held 0 kind ≡ false
unfolding is_held
none_at kind = ap (λ b. b == 1) (bit_at-zero kind)

pub with_kind_same : (set kind : ℕ) → is_held (with_kind set kind) kind ≡ true
unfolding is_held with_kind
with_kind_same set kind =
    let one = bit_at-pow_same kind in
    let or = bit_at_or set (2 ^ kind) kind in
    let low = bit_at-lt set kind in
    ap (λ n. n == 1) (let e : bit_at (with_kind set kind) kind ≡ 1 = omega (arith, or, one, low) in e)

pub with_kind_other : (set kind other : ℕ) → other ≢ kind → is_held (with_kind set kind) other ≡ is_held set other
unfolding is_held with_kind
with_kind_other set kind other apart =
    let none = bit_at-pow_other kind other apart in
    let or = bit_at_or set (2 ^ kind) other in
    ap (λ n. n == 1) (let e : bit_at (with_kind set kind) other ≡ bit_at set other = omega (arith, or, none) in e)

-- one more, where it is chosen
pub chosen_bits : (bits kind : ℕ) (chosen : Bool) → kind < 64 → bit_or bits (from_bool chosen * 2 ^ kind % 2 ^ 64) ≡ cond chosen (with_kind bits kind) bits
unfolding with_kind
chosen_bits bits kind true low = ap (bit_or bits) (one_shl kind 64 low)
chosen_bits bits kind false low = ap (bit_or bits) (nothing (2 ^ kind)) ∙ or_comm bits 0 ∙ or_zero_l bits
  where
    nothing : (p : ℕ) → 0 * p % 2 ^ 64 ≡ 0
    nothing p = omega arith

pub chosen_few : (kind : ℕ) (chosen : Bool) → kind < 34 → from_bool chosen * 2 ^ kind % 2 ^ 64 < 2 ^ 34
chosen_few kind true low = omega (arith, one_shl kind 64 (omega (arith, low)), pow_below kind 34 low)
chosen_few kind false low = few (2 ^ kind)
  where
    few : (p : ℕ) → 0 * p % 2 ^ 64 < 2 ^ 34
    few p = omega arith

-- ---- the kinds that pass a test

is_bit : (b : Bool) → (cond b 1 0 == 1) ≡ b
is_bit true = refl
is_bit false = refl

pub where_at : (test : ℕ → Bool) (kind : ℕ) → kind < 34 → is_held (kinds_where test) kind ≡ test kind
unfolding is_held kinds_where
where_at test kind low =
    ap (λ n. n == 1) (bit_mask_l (map test every_kind) kind) ∙ is_bit (get_or (map test every_kind) kind false) ∙ get_or-map-range_with_len test 0 34 kind kind false low (omega arith)

pub where_past : (test : ℕ → Bool) (kind : ℕ) → 34 ≤ kind → is_held (kinds_where test) kind ≡ false
unfolding is_held kinds_where
where_past test kind past =
    ap (λ n. n == 1) (bit_mask_l (map test every_kind) kind) ∙ is_bit (get_or (map test every_kind) kind false)
    ∙ get_or_past (map test every_kind) kind false (omega (arith, past, length-map-range_with_len test 0 34))

pub where_low : (test : ℕ → Bool) → kinds_where test < 2 ^ 34
unfolding kinds_where
where_low test = subst (λ n. mask_l (map test every_kind) < 2 ^ n) (length-map-range_with_len test 0 34) (mask_l-lt (map test every_kind))

-- ---- a set that is filled kind by kind

-- just those kinds below a number that pass a test
pub record AreBelow (test : ℕ → Bool) (number set : ℕ) : Type 0 where
  pub below : (kind : ℕ) → kind < number → is_held set kind ≡ test kind
  pub above : (kind : ℕ) → number ≤ kind → is_held set kind ≡ false

pub none_below : (test : ℕ → Bool) → AreBelow test 0 0
none_below test = record { below = λ kind low. absurd (omega (arith, low)); above = λ kind past. none_at kind }

pub one_more : (test : ℕ → Bool) (number set next : ℕ) (chosen : Bool) → AreBelow test number set → chosen ≡ test number → next ≡ cond chosen (with_kind set number) set → AreBelow test (number + 1) next
one_more test number set next chosen so_far is e = record {
  below = λ kind low. elim (cases_eq kind number) [
    | inl same ↦ ap (λ s. is_held s kind) e ∙ ap (is_held (cond chosen (with_kind set number) set)) same ∙ here chosen ∙ is ∙ ap test (sym same)
    | inr apart ↦ ap (λ s. is_held s kind) e ∙ there chosen kind apart ∙ so_far.below kind (omega (arith, low, apart))
  ];
  above = λ kind past. ap (λ s. is_held s kind) e ∙ there chosen kind (λ same. omega (arith, past, same)) ∙ so_far.above kind (omega (arith, past));
}
  where
    here : (b : Bool) → is_held (cond b (with_kind set number) set) number ≡ b
    here true = with_kind_same set number
    here false = so_far.above number (omega arith)

    there : (b : Bool) (kind : ℕ) → kind ≢ number → is_held (cond b (with_kind set number) set) kind ≡ is_held set kind
    there true kind apart = with_kind_other set number kind apart
    there false kind apart = refl

-- ---- two sets with the same members

same_bit : (m n : ℕ) → m < 2 → n < 2 → (m == 1) ≡ (n == 1) → m ≡ n
same_bit m n low low' e = grind (arith, nat_tests)

pub same_set : (a b : ℕ) → ((kind : ℕ) → is_held a kind ≡ is_held b kind) → a ≡ b
unfolding is_held
same_set a b each = same_from_bits a b (λ n. same_bit (bit_at a n) (bit_at b n) (bit_at-lt a n) (bit_at-lt b n) (each n))

pub same_members : (size a b : ℕ) → a < 2 ^ size → b < 2 ^ size → ((n : ℕ) → n < size → is_held a n ≡ is_held b n) → a ≡ b
unfolding is_held
same_members size a b low low' each = same_from_bits_below size a b low low' (λ n inside. same_bit (bit_at a n) (bit_at b n) (bit_at-lt a n) (bit_at-lt b n) (each n inside))

-- no set has more than the 34
pub past_at : (set kind : ℕ) → set < 2 ^ 34 → 34 ≤ kind → is_held set kind ≡ false
unfolding is_held
past_at set kind few past = ap (λ n. n == 1) (bit_at_above set 34 kind few past)

pub where_held : (set : ℕ) → set < 2 ^ 34 → kinds_where (is_held set) ≡ set
where_held set few = same_set (kinds_where (is_held set)) set (λ kind. elim (cases_lt kind 34) [
  | inl low ↦ where_at (is_held set) kind low
  | inr past ↦ where_past (is_held set) kind past ∙ sym (past_at set kind few past)
])

-- ---- how many

pub counted : (set : ℕ) → set < 2 ^ 34 → count_ones set ≡ count_by (is_held set) every_kind
unfolding kinds_where
counted set few = ap count_ones (sym (where_held set few)) ∙ ones-mask_l (is_held set) every_kind

pub few_counted : (set : ℕ) → set < 2 ^ 34 → count_ones set ≤ 34
few_counted set few = omega (arith, counted set few, count_by-le-length (is_held set) every_kind)

-- ---- two sets beside each other

pub twice : (b : Bool) → not (not b) ≡ b
twice true = refl
twice false = refl

pub apart : (a b : ℕ) → bit_and a b < 2 ^ 34 → (bit_and a b == 0) ≡ not (list_any (λ kind. is_held a kind && is_held b kind) every_kind)
apart a b few =
    let both = bit_and a b in
    let whole : both / 2 ^ 0 % 2 ^ 34 ≡ both = omega (arith, few) in
    sym (ap not (sym (any-agree (is_held both) (λ kind. is_held a kind && is_held b kind) every_kind (λ kind _. both_at a b kind)) ∙ some-held 34 0 both ∙ ap (λ n. not (n == 0)) whole) ∙ twice (both == 0))

either_kept : (x y : Bool) → (x || y) ≡ x → (x || not y) ≡ true
either_kept true y e = refl
either_kept false true e = sym e
either_kept false false e = refl

kept_either : (x y : Bool) → (x || not y) ≡ true → (x || y) ≡ x
kept_either true y e = refl
kept_either false true e = sym e
kept_either false false e = refl

pub within : (a b : ℕ) → a < 2 ^ 34 → bit_or a b < 2 ^ 34 → (bit_or a b == a) ≡ list_all (λ kind. is_held a kind || not (is_held b kind)) every_kind
within a b few fits =
    let kept : ℕ → Bool = λ kind. is_held a kind || not (is_held b kind) in
    both_ways (bit_or a b == a) (list_all kept every_kind)
    (λ same. all-from kept every_kind (λ kind _. either_kept (is_held a kind) (is_held b kind) (sym (either_at a b kind) ∙ ap (λ s. is_held s kind) (eqb-true (bit_or a b) a same))))
    (λ all. eq-eqb (bit_or a b) a (same_members 34 (bit_or a b) a fits few (λ kind inside. either_at a b kind ∙ kept_either (is_held a kind) (is_held b kind) (all-in kept every_kind all kind (in-range 34 0 kind (omega arith) inside)))))

pub either_where : (test other : ℕ → Bool) → bit_or (kinds_where test) (kinds_where other) ≡ kinds_where (λ kind. test kind || other kind)
either_where test other = same_set (bit_or (kinds_where test) (kinds_where other)) (kinds_where (λ kind. test kind || other kind)) (λ kind. either_at (kinds_where test) (kinds_where other) kind ∙ elim (cases_lt kind 34) [
  | inl low ↦ rw (where_at test kind low, where_at other kind low) (sym (where_at (λ kind. test kind || other kind) kind low))
  | inr past ↦ rw (where_past test kind past, where_past other kind past) (sym (where_past (λ kind. test kind || other kind) kind past))
])

-- the kinds of a suit
pub suit_bits : (suit : Suit) → (1 * 2 ^ kinds_of suit % 2 ^ 64 - 1) * 2 ^ first_of suit % 2 ^ 64 ≡ kinds_where (is_of_suit suit)
unfolding kinds_where
suit_bits Characters = refl
suit_bits other = refl

pub suit_shifts : (suit : Suit) → (kinds_of suit < 64) × (first_of suit < 64) × (1 ≤ 1 * 2 ^ kinds_of suit % 2 ^ 64)
suit_shifts Characters = (omega arith, omega arith, omega arith)
suit_shifts other = (omega arith, omega arith, omega arith)

-- what a kind more does, for loops that fill a set
pub ruleset kind_sets = (none_at, with_kind_same, with_kind_other)
