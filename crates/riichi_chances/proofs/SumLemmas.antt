-- Sums over kinds, of which some are told from the others.
use Rattle.std.proofs.Common.{◌≡◌, ℕ, zero, suc, ◌+◌, ◌-◌, ◌*◌, ◌<◌, ◌≤◌, Bool, true, false, cond, max, List, [], ◌∷◌, inl, inr, refl, ap, ◌∙◌, arith}
use Rattle.riichi_rows.proofs.Spread.{spread}
use Rattle.riichi_tiles.proofs.Members.{IsIn}
use Rattle.riichi_chances.specs.Draws.{greatest}

-- the value of a chosen kind, and a common one of the others
abbrev pub Parted : (live after by : ℕ → ℕ) (common : ℕ) → ℕ → Bool → Type 0
Parted live after by common k true = after k ≡ by k
Parted live after by common k false = live k * after k ≡ live k * common

part_one : (l a b x : ℕ) (t : Bool) (rest few all some : ℕ) → ((t ≡ true) → a ≡ b) → ((t ≡ false) → l * a ≡ l * x) → rest + few * x ≡ all * x + some →
    (l * a + rest) + (cond t l 0 + few) * x ≡ (l + all) * x + (cond t (l * b) 0 + some)
part_one l a b x true rest few all some is not e = let same = is refl in omega (arith, e, ap (λ n. l * n) same)
part_one l a b x false rest few all some is not e = omega (arith, e, not refl)

module _ (live after by : ℕ → ℕ) (chosen : ℕ → Bool) (common : ℕ) where
  pub parted : (a n : ℕ) → ((k : ℕ) → k < a + n → (chosen k ≡ true → after k ≡ by k) × (chosen k ≡ false → live k * after k ≡ live k * common)) →
      spread (λ k. live k * after k) a n + spread (λ k. cond (chosen k) (live k) 0) a n * common ≡ spread live a n * common + spread (λ k. cond (chosen k) (live k * by k) 0) a n
  unfolding spread
  parted a zero each = omega arith
  parted a (suc n) each =
      let here = each a (omega arith) in
      part_one (live a) (after a) (by a) common (chosen a) (spread (λ k. live k * after k) (a + 1) n) (spread (λ k. cond (chosen k) (live k) 0) (a + 1) n) (spread live (a + 1) n) (spread (λ k. cond (chosen k) (live k * by k) 0) (a + 1) n) here.0 here.1
      (parted (a + 1) n (λ k low. each k (omega arith)))

  fewer : (t : Bool) (l : ℕ) → cond t l 0 ≤ l
  fewer true l = omega arith
  fewer false l = omega arith

  pub chosen_few : (a n : ℕ) → spread (λ k. cond (chosen k) (live k) 0) a n ≤ spread live a n
  unfolding spread
  chosen_few a zero = omega arith
  chosen_few a (suc n) = omega (arith, fewer (chosen a) (live a), chosen_few (a + 1) n)

pub without_chosen : (total few all common some : ℕ) → few ≤ all → total + few * common ≡ all * common + some → total ≡ (all - few) * common + some
without_chosen total few all common some less e = by_rest (all - few) (omega arith)
  where
    by_rest : (rest : ℕ) → all ≡ rest + few → total ≡ rest * common + some
    by_rest rest is = omega (arith, e, ap (λ n. n * common) is)

-- ---- the greatest of some values

pub greatest_same : (f g : ℕ → ℕ) (kinds : List ℕ) → ((k : ℕ) → IsIn k kinds → f k ≡ g k) → greatest f kinds ≡ greatest g kinds
unfolding greatest
greatest_same f g [] each = refl
greatest_same f g (kind ∷ kinds) each = ap (λ n. max n (greatest f kinds)) (each kind (inl refl)) ∙ ap (max (g kind)) (greatest_same f g kinds (λ k i. each k (inr i)))

pub greatest_few : (f : ℕ → ℕ) (most : ℕ) (kinds : List ℕ) → ((k : ℕ) → IsIn k kinds → f k ≤ most) → greatest f kinds ≤ most
unfolding greatest
greatest_few f most [] each = omega arith
greatest_few f most (kind ∷ kinds) each = omega (arith, each kind (inl refl), greatest_few f most kinds (λ k i. each k (inr i)))
