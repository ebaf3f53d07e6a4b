-- Sums over successive numbers, and lists of a function's values.
use Rattle.std.proofs.Common.{◌≡◌, ◌≢◌, ℕ, zero, suc, ◌+◌, ◌-◌, ◌*◌, ◌<◌, ◌≤◌, cond, false, ◌⊎◌, inl, inr, List, [], ◌∷◌, eqb, get_or, refl, ap, ◌∙◌, ⊎_elim, arith, sym}
use Rattle.std.proofs.lemmas.Bool.{cases_lt, eq-eqb}
use Rattle.std.proofs.lemmas.Bool.Decides.{nat_tests}
use Rattle.std.proofs.lemmas.List.Sums.{sum_by-cons}
use Rattle.std.specs.Prelude.{sum_by}
use Rattle.std.specs.List.{range_with_len}

-- ---- a sum over successive numbers

unfoldable pub spread : (ℕ → ℕ) → ℕ → ℕ → ℕ
spread f a zero = 0
spread f a (suc n) = f a + spread f (a + 1) n

pub sum_range : (f : ℕ → ℕ) (a n : ℕ) → sum_by f (range_with_len a n) ≡ spread f a n
unfolding spread
sum_range f a zero = refl
sum_range f a (suc n) = sum_by-cons f a (range_with_len (a + 1) n) ∙ ap (λ m. f a + m) (sum_range f (a + 1) n)

pub same_spread : (f : ℕ → ℕ) (a b m n : ℕ) → a ≡ b → m ≡ n → spread f a m ≡ spread f b n
same_spread f a b m n e e' = cc

pub spread_add : (f : ℕ → ℕ) (a m n : ℕ) → spread f a (m + n) ≡ spread f a m + spread f (a + m) n
unfolding spread
spread_add f a zero n = let e = same_spread f a (a + 0) (0 + n) n (omega arith) (omega arith) in omega (arith, e)
spread_add f a (suc m) n =
    let e = same_spread f a a (suc m + n) (suc (m + n)) refl (omega arith) in
    let e' = same_spread f (a + 1 + m) (a + suc m) n n (omega arith) refl in
    omega (arith, e, spread_more f a (m + n), spread_add f (a + 1) m n, e')
  where
    spread_more : (f : ℕ → ℕ) (a n : ℕ) → spread f a (suc n) ≡ f a + spread f (a + 1) n
    spread_more f a n = refl

pub at_same_number : (f : ℕ → ℕ) (a b : ℕ) → a ≡ b → f a ≡ f b
at_same_number f a b e = ap f e

pub spread_shift : (f g : ℕ → ℕ) (a b n : ℕ) → ((r : ℕ) → r < n → f (a + r) ≡ g (b + r)) → spread f a n ≡ spread g b n
unfolding spread
spread_shift f g a b zero same = refl
spread_shift f g a b (suc n) same =
    let first = same 0 (omega arith) in
    let fa = at_same_number f (a + 0) a (omega arith) in
    let gb = at_same_number g (b + 0) b (omega arith) in
    let rest = spread_shift f g (a + 1) (b + 1) n (λ r h. at_same_number f (a + 1 + r) (a + (r + 1)) (omega arith) ∙ same (r + 1) (omega arith) ∙ at_same_number g (b + (r + 1)) (b + 1 + r) (omega arith)) in
    omega (arith, first, fa, gb, rest)

pub spread_none : (f : ℕ → ℕ) (a n : ℕ) → ((k : ℕ) → a ≤ k → k < a + n → f k ≡ 0) → spread f a n ≡ 0
unfolding spread
spread_none f a zero none = refl
spread_none f a (suc n) none = omega (arith, none a (omega arith) (omega arith), spread_none f (a + 1) n (λ k low high. none k (omega arith) (omega arith)))

pub spread_few : (f : ℕ → ℕ) (a n : ℕ) → ((k : ℕ) → a ≤ k → k < a + n → f k ≤ 4) → spread f a n ≤ 4 * n
unfolding spread
spread_few f a zero few = omega arith
spread_few f a (suc n) few = omega (arith, few a (omega arith) (omega arith), spread_few f (a + 1) n (λ k low high. few k (omega arith) (omega arith)))

pub spread_sum : (f g h : ℕ → ℕ) → ((k : ℕ) → h k ≡ f k + g k) → (a n : ℕ) → spread h a n ≡ spread f a n + spread g a n
unfolding spread
spread_sum f g h each a zero = refl
spread_sum f g h each a (suc n) = omega (arith, each a, spread_sum f g h each (a + 1) n)

-- ---- a list of the values of a function

unfoldable pub table : (ℕ → ℕ) → ℕ → ℕ → List ℕ
table f a zero = []
table f a (suc n) = f a ∷ table f (a + 1) n

pub table_at : (f : ℕ → ℕ) (a n k : ℕ) → k < n → get_or (table f a n) k 0 ≡ f (a + k)
unfolding table
table_at f a zero k h = absurd (omega arith)
table_at f a (suc n) zero h = at_same_number f a (a + 0) (omega arith)
table_at f a (suc n) (suc k) h = table_at f (a + 1) n k (omega arith) ∙ at_same_number f (a + 1 + k) (a + suc k) (omega arith)

-- ---- one term more at one place

pub not_eqb : (k t : ℕ) → (k < t) ⊎ (t < k) → eqb k t ≡ false
not_eqb k t e = grind (arith, nat_tests)

-- one term more at t
module _ (f g e : ℕ → ℕ) (t : ℕ) (each : (k : ℕ) → f k ≡ g k + cond (eqb k t) (e k) 0) where
  at_other : (k : ℕ) → (k < t) ⊎ (t < k) → f k ≡ g k
  at_other k h = each k ∙ ap (λ b. g k + cond b (e k) 0) (not_eqb k t h) ∙ omega arith

  at_point : f t ≡ g t + e t
  at_point = each t ∙ ap (λ b. g t + cond b (e t) 0) (eq-eqb t t refl)

  spread_past : (a n : ℕ) → t < a → spread f a n ≡ spread g a n
  unfolding spread
  spread_past a zero past = refl
  spread_past a (suc n) past = omega (arith, at_other a (inr past), spread_past (a + 1) n (omega arith))

  pub spread_with : (a n : ℕ) → a ≤ t → t < a + n → spread f a n ≡ spread g a n + e t
  unfolding spread
  spread_with a zero low high = absurd (omega arith)
  spread_with a (suc n) low high = ⊎_elim (λ below. earlier below (spread_with (a + 1) n (omega arith) (omega arith))) (λ here. now_here (omega arith)) (cases_lt a t)
    where
      earlier : a < t → spread f (a + 1) n ≡ spread g (a + 1) n + e t → f a + spread f (a + 1) n ≡ g a + spread g (a + 1) n + e t
      earlier below rest = omega (arith, at_other a (inl below), rest)

      now_here : a ≡ t → f a + spread f (a + 1) n ≡ g a + spread g (a + 1) n + e t
      now_here same = omega (arith, ap f same, ap g same, at_point, spread_past (a + 1) n (omega arith))

-- ---- one more at x

-- either the multiset lacks x and the lack falls by one, or it does not and the lack stays
abbrev pub Falls : (h w : ℕ → ℕ) → (x before after : ℕ) → Type 0
Falls h w x before after = ((h x < w x) × (before ≡ after + 1)) ⊎ ((w x ≤ h x) × (before ≡ after))

module _ (h more w : ℕ → ℕ) (x : ℕ) (here : more x ≡ h x + 1) (elsewhere : (k : ℕ) → k ≢ x → more k ≡ h k) where
  one_term : (d k : ℕ) → (h x < w x × (d ≡ 1)) ⊎ (w x ≤ h x × (d ≡ 0)) → w k - h k ≡ (w k - more k) + cond (eqb k x) d 0
  one_term d k is = ⊎_elim (λ low. other (inl low)) (λ not_low. ⊎_elim (λ high. other (inr high)) (λ not_high. same (omega arith)) (cases_lt x k)) (cases_lt k x)
    where
      other : (k < x) ⊎ (x < k) → w k - h k ≡ (w k - more k) + cond (eqb k x) d 0
      other ne =
          let e = elsewhere k (λ e. ⊎_elim (λ l. omega (arith, l, e)) (λ l. omega (arith, l, e)) ne) in
          let none : cond (eqb k x) d 0 ≡ 0 = ap (λ b. cond b d 0) (not_eqb k x ne) in
          omega (arith, e, none)

      same : k ≡ x → w k - h k ≡ (w k - more k) + cond (eqb k x) d 0
      same e =
          let one : cond (eqb k x) d 0 ≡ d = ap (λ b. cond b d 0) (eq-eqb k x e) in
          ⊎_elim (λ lacks. omega (arith, one, lacks, here, ap w e, ap h e, ap more e)) (λ not. omega (arith, one, not, here, ap w e, ap h e, ap more e)) is

  falls : (n : ℕ) → x < n → Falls h w x (spread (λ k. w k - h k) 0 n) (spread (λ k. w k - more k) 0 n)
  falls n inside =
      ⊎_elim
      (λ lacks. inl (lacks, spread_with (λ k. w k - h k) (λ k. w k - more k) (λ k. 1) x (λ k. one_term 1 k (inl (lacks, refl))) 0 n (omega arith) (omega arith)))
      (λ not. inr (not, spread_with (λ k. w k - h k) (λ k. w k - more k) (λ k. 0) x (λ k. one_term 0 k (inr (not, refl))) 0 n (omega arith) (omega arith) ∙ omega arith))
      (cases_lt (h x) (w x))

  -- the sums over all numbers below n
  pub sums_fall : (n : ℕ) → x < n → Falls h w x (sum_by (λ k. w k - h k) (range_with_len 0 n)) (sum_by (λ k. w k - more k) (range_with_len 0 n))
  sums_fall n inside =
      let e = sum_range (λ k. w k - h k) 0 n in
      let e' = sum_range (λ k. w k - more k) 0 n in
      ⊎_elim (λ lacks. inl (lacks.0, e ∙ lacks.1 ∙ ap (λ m. m + 1) (sym e'))) (λ not. inr (not.0, e ∙ not.1 ∙ sym e')) (falls n inside)
