-- The bits of the kinds that are held.
use Rattle.std.proofs.Common.{◌≡◌, ℕ, zero, suc, inl, inr, ◌+◌, ◌-◌, ◌*◌, ◌/◌, ◌%◌, ◌^◌, ◌<◌, ◌≤◌, Bool, true, false, not, ◌||◌, cond, nat_eq, nat_lt, w8, w64, List, [], ◌∷◌, ◌++◌, map, length, drop, get_or, replicate, refl, sym, ap, ◌∙◌, add-one, arith}
use Rattle.std.specs.Int.{bit_at, trailing_zeros}
use Rattle.std.specs.List.{list_any, range_with_len}
use Rattle.std.proofs.Math.Nat.{pow-suc}
use Rattle.std.proofs.Math.Seq.{drop-cons}
use Rattle.std.proofs.Math.ListN.{drop_of_length-le}
use Rattle.std.proofs.lemmas.Nat.{shr-shr, mod-pow-add}
use Rattle.std.proofs.lemmas.Nat.Bits.{bit_at-trailing_zeros, bit_at_above, bit_at-zero}
use Rattle.std.proofs.lemmas.Bool.{cases_lt}
use Rattle.std.proofs.lemmas.Bool.Decides.{nat_tests}
use Rattle.std.proofs.lemmas.List.{map-append, length-map}
use Rattle.std.proofs.lemmas.Simd.{bitmask_splat, mask_l-lt, bit_mask_l, chunk-drop, length-chunk}
use lib.Lanes.{mask_l, chunk, top, zip2}
use Rattle.riichi_tiles.specs.HeldKinds.{is_held, AreHeldOf}

-- ---- a mask of kinds

abbrev differs : ℕ → ℕ → Bool
differs a b = not (nat_eq a b)

differs-from_none : (count : ℕ) → differs count 0 ≡ nat_lt 0 count
differs-from_none count = grind (arith, nat_tests)

same-marks : (counts : List ℕ) → map (λ count. differs count 0) counts ≡ map (nat_lt 0) counts
same-marks [] = refl
same-marks (count ∷ counts) = ap (λ b. b ∷ map (λ (c : ℕ). differs c 0) counts) (differs-from_none count) ∙ ap (λ l. nat_lt 0 count ∷ l) (same-marks counts)

-- what comparing each count with 0 gives
pub compared : (counts : List ℕ) → length counts ≡ 32 → mask_l (map (top 7) (zip2 (λ a b. cond (differs a b) 255 0) counts (replicate 32 0))) % 2 ^ 64 ≡ mask_l (map (nat_lt 0) counts)
compared counts long = bitmask_splat w8 differs counts 32 0 long (omega arith) ∙ ap mask_l (same-marks counts)

mask-append : (ms ns : List Bool) → mask_l (ms ++ ns) ≡ mask_l ms + 2 ^ length ms * mask_l ns
mask-append [] ns = omega arith
mask-append (b ∷ ms) ns = omega (arith, mask-append ms ns, ap (λ x. x * mask_l ns) (pow-suc 2 (length ms)))

marks : (counts : List ℕ) (kind : ℕ) → get_or (map (nat_lt 0) counts) kind false ≡ nat_lt 0 (get_or counts kind 0)
marks [] kind = refl
marks (count ∷ counts) zero = refl
marks (count ∷ counts) (suc kind) = marks counts kind

one-bit : (b : Bool) → nat_eq (cond b 1 0) 1 ≡ b
one-bit true = refl
one-bit false = refl

pub mask-held : (counts : List ℕ) → AreHeldOf counts (mask_l (map (nat_lt 0) counts))
unfolding is_held
mask-held counts = record {
  each = λ kind. ap (λ n. nat_eq n 1) (bit_mask_l (map (nat_lt 0) counts) kind) ∙ one-bit (get_or (map (nat_lt 0) counts) kind false) ∙ marks counts kind;
}

-- the last two of 34 counts stand behind the others
last-two : (counts : List ℕ) → length counts ≡ 34 → counts ≡ chunk 0 32 counts ++ (get_or counts 32 0 ∷ (get_or counts 33 0 ∷ []))
last-two counts long =
    let one : drop 32 counts ≡ get_or counts 32 0 ∷ drop 33 counts = drop-cons counts 32 0 (omega (arith, long)) in
    let two : drop 33 counts ≡ get_or counts 33 0 ∷ drop 34 counts = drop-cons counts 33 0 (omega (arith, long)) in
    let none : drop 34 counts ≡ [] = drop_of_length-le counts {i = 34} (omega (arith, long)) in
    chunk-drop 0 32 counts ∙ ap (λ l. chunk 0 32 counts ++ l) (one ∙ ap (λ l. get_or counts 32 0 ∷ l) (two ∙ ap (λ l. get_or counts 33 0 ∷ l) none))

two-marks : (a b : Bool) → mask_l (a ∷ (b ∷ [])) ≡ cond {A = ℕ} a 1 0 + 2 * cond {A = ℕ} b 1 0
two-marks a b = omega arith

pub whole-mask : (counts : List ℕ) → length counts ≡ 34 →
    mask_l (map (nat_lt 0) counts) ≡ mask_l (map (nat_lt 0) (chunk 0 32 counts)) + 4294967296 * cond (nat_lt 0 (get_or counts 32 0)) 1 0 + 8589934592 * cond (nat_lt 0 (get_or counts 33 0)) 1 0
whole-mask counts long =
    let first = map (nat_lt 0) (chunk 0 32 counts) in
    let last = map (nat_lt 0) (get_or counts 32 0 ∷ (get_or counts 33 0 ∷ [])) in
    let many : length first ≡ 32 = length-map (chunk 0 32 counts) (nat_lt 0) ∙ length-chunk 0 32 counts (omega (arith, long)) in
    let parts : mask_l (map (nat_lt 0) counts) ≡ mask_l (first ++ last) = ap (λ l. mask_l (map (nat_lt 0) l)) (last-two counts long) ∙ ap mask_l (map-append (nat_lt 0) (chunk 0 32 counts) (get_or counts 32 0 ∷ (get_or counts 33 0 ∷ []))) in
    let power : 2 ^ length first ≡ 4294967296 = ap (λ n. 2 ^ n) many in
    omega (arith, parts, mask-append first last, ap (λ p. p * mask_l last) power, two-marks (nat_lt 0 (get_or counts 32 0)) (nat_lt 0 (get_or counts 33 0)))

pub mask-below : (counts : List ℕ) → length counts ≡ 34 → mask_l (map (nat_lt 0) counts) < 2 ^ 34
mask-below counts long =
    let power : 2 ^ length (map (nat_lt 0) counts) ≡ 2 ^ 34 = ap (λ n. 2 ^ n) (length-map counts (nat_lt 0) ∙ long) in
    omega (arith, mask_l-lt (map (nat_lt 0) counts), power)

-- ---- bits from one on

bit-above : (n k i : ℕ) → k ≤ i → bit_at n i ≡ bit_at (n / 2 ^ k) (i - k)
bit-above n k i h =
    let there : k + (i - k) ≡ i = omega (arith, h) in
    ap (λ m. n / 2 ^ m % 2) (sym there) ∙ ap (λ m. m % 2) (sym (shr-shr n k (i - k)))

not-one : (n : ℕ) → n ≡ 0 → nat_eq n 1 ≡ false
not-one n e = ap (λ m. nat_eq m 1) e

pub none_above : (n k other : ℕ) → n / 2 ^ k ≡ 0 → k ≤ other → is_held n other ≡ false
unfolding is_held
none_above n k other e h = not-one (bit_at n other) (bit-above n k other h ∙ ap (λ m. bit_at m (other - k)) e ∙ bit_at-zero (other - k))

-- the first bit from one on
pub record IsFirst (n k first : ℕ) : Type 0 where
  pub end : k + first ≤ 34
  pub none : (other : ℕ) → k ≤ other → other < k + first → is_held n other ≡ false
  pub held : is_held n (k + first) ≡ true

pub first_above : (n k : ℕ) → n < 2 ^ 34 → 0 < n / 2 ^ k → n / 2 ^ k < 2 ^ 64 → IsFirst n k (trailing_zeros w64 (n / 2 ^ k))
unfolding is_held
first_above n k small some fits =
    let above = n / 2 ^ k in
    let first = trailing_zeros w64 above in
    let low = bit_at-trailing_zeros w64 above some fits in
    let back : k + first - k ≡ first = omega arith in
    let is : bit_at n (k + first) ≡ 1 = bit-above n k (k + first) (omega arith) ∙ ap (bit_at above) back ∙ low.1 in
    record {
      end = elim (cases_lt (k + first) 34) [
        | inl lt ↦ omega (arith, lt)
        | inr past ↦ let no = bit_at_above n 34 (k + first) small past in absurd (omega (arith, is, no))
      ];
      held = ap (λ m. nat_eq m 1) is;
      none = λ other a b. not-one (bit_at n other) (bit-above n k other a ∙ low.2 (other - k) (omega (arith, a, b)));
    }

-- ---- some kinds

step : (b r : ℕ) → b < 2 → (nat_eq b 1 || not (nat_eq r 0)) ≡ not (nat_eq (r * 2 + b) 0)
step b r h = grind (arith, nat_tests)

pub some-held : (number first n : ℕ) → list_any (is_held n) (range_with_len first number) ≡ not (nat_eq (n / 2 ^ first % 2 ^ number) 0)
unfolding is_held
some-held zero first n = ap (λ m. not (nat_eq m 0)) (let none : 0 ≡ n / 2 ^ first % 1 = omega arith in none)
some-held (suc number) first n =
    let m = n / 2 ^ first in
    let next : n / 2 ^ (first + 1) ≡ m / 2 = sym (shr-shr n first 1) in
    let rest = some-held number (first + 1) n ∙ ap (λ x. not (nat_eq (x % 2 ^ number) 0)) next in
    let two : m % 2 ^ (number + 1) ≡ (m / 2 % 2 ^ number) * 2 + m % 2 = mod-pow-add m number 1 in
    let more : number + 1 ≡ suc number = add-one number in
    ap (λ b. nat_eq (m % 2) 1 || b) rest
    ∙ step (m % 2) (m / 2 % 2 ^ number) (omega arith)
    ∙ ap (λ x. not (nat_eq x 0)) (sym two ∙ ap (λ k. m % 2 ^ k) more)
