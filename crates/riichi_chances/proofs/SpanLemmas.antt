-- Numbers for each number of turns, one turn more.
use Rattle.std.proofs.Common.{◌≡◌, ◌≢◌, ℕ, suc, ◌+◌, ◌-◌, ◌*◌, ◌^◌, ◌<◌, ◌≤◌, List, length, get_or, slice_set, get_or-set_same, get_or-set_other, refl, sym, ap, subst, ◌∙◌, ⊎_elim, arith}
use Rattle.std.proofs.lemmas.Bool.{cases_eq}
use Rattle.riichi_chances.specs.Draws.{all_draws}
use Rattle.riichi_chances.specs.Numbers.{most_draws, unseen_at}
use Rattle.riichi_chances.specs.declared.span.Span.{Span}
use Rattle.riichi_chances.proofs.BoundLemmas.{most_fits, most_more, step_few, times_few}

pub one_turn_more : (span : Span) (left : ℕ) → left < span.turns → unseen_at span (left + 1) - 1 ≡ unseen_at span left
one_turn_more span left low = omega arith

pub all_none : (unseen : ℕ) → all_draws unseen 0 ≡ 1
unfolding all_draws
all_none unseen = refl

pub all_more : (unseen left : ℕ) → all_draws unseen (suc left) ≡ unseen * all_draws (unseen - 1) left
unfolding all_draws
all_more unseen left = refl

pub all_step : (span : Span) (left : ℕ) → left < span.turns → all_draws (unseen_at span (left + 1)) (left + 1) ≡ unseen_at span (left + 1) * all_draws (unseen_at span left) left
all_step span left low =
    ap (all_draws (unseen_at span (left + 1))) (one left) ∙ all_more (unseen_at span (left + 1)) left ∙ ap (λ n. unseen_at span (left + 1) * all_draws n left) (one_turn_more span left low)
  where
    one : (n : ℕ) → n + 1 ≡ suc n
    one n = omega arith

pub most_next : (left : ℕ) → most_draws (left + 1) ≡ 136 * most_draws left
most_next left = ap most_draws (one left) ∙ most_more left
  where
    one : (n : ℕ) → n + 1 ≡ suc n
    one n = omega arith

-- a number of one turn more fits
pub next_fits : (left turns n : ℕ) → left < turns → turns ≤ 18 → n ≤ 136 * most_draws left → n < 2 ^ 128
next_fits left turns n low few small = omega (arith, most_next left, most_fits (left + 1) (omega (arith, low, few)), small)

pub product_fits : (left turns a b : ℕ) → left < turns → turns ≤ 18 → a ≤ 136 → b ≤ most_draws left → a * b < 2 ^ 128
product_fits left turns a b low few small less = next_fits left turns (a * b) low few (times_few a 136 b (most_draws left) small less)

-- ---- a number is put behind the others

module _ (row : List ℕ) (left v : ℕ) (long : left + 1 < length row) where
  abbrev put : List ℕ
  put = slice_set row (left + 1) v

  pub put_here : get_or put (left + 1) 0 ≡ v
  put_here = get_or-set_same row (left + 1) v 0 long

  pub put_other : (k : ℕ) → k ≤ left → get_or put k 0 ≡ get_or row k 0
  put_other k low = get_or-set_other row (left + 1) k v 0 (λ e. omega (arith, e, low))

  pub put_each : (P : ℕ → ℕ → Type 0) → ((k : ℕ) → k ≤ left → P k (get_or row k 0)) → P (left + 1) v → (k : ℕ) → k ≤ left + 1 → P k (get_or put k 0)
  put_each P before here k low = ⊎_elim at_last (λ ne. subst (P k) (sym (put_other k (omega (arith, low, ne)))) (before k (omega (arith, low, ne)))) (cases_eq k (left + 1))
    where
      at_last : k ≡ left + 1 → P k (get_or put k 0)
      at_last e = subst (λ (m : ℕ). P m (get_or put m 0)) (sym e) (subst (P (left + 1)) (sym put_here) here)

-- a row of which each number follows from the one before
module _ (row : List ℕ) (left v : ℕ) (long : left + 1 < length row) (F : ℕ → ℕ → ℕ) where
  pub put_more : ((k : ℕ) → k < left → get_or row (k + 1) 0 ≡ F k (get_or row k 0)) → v ≡ F left (get_or row left 0) → (k : ℕ) → k < left + 1 → get_or (slice_set row (left + 1) v) (k + 1) 0 ≡ F k (get_or (slice_set row (left + 1) v) k 0)
  put_more before here k low = ⊎_elim at_last earlier (cases_eq k left)
    where
      at_last : k ≡ left → get_or (slice_set row (left + 1) v) (k + 1) 0 ≡ F k (get_or (slice_set row (left + 1) v) k 0)
      at_last e = subst (λ (m : ℕ). get_or (slice_set row (left + 1) v) (m + 1) 0 ≡ F m (get_or (slice_set row (left + 1) v) m 0)) (sym e) (put_here row left v long ∙ here ∙ ap (F left) (sym (put_other row left v long left (omega arith))))

      earlier : k ≢ left → get_or (slice_set row (left + 1) v) (k + 1) 0 ≡ F k (get_or (slice_set row (left + 1) v) k 0)
      earlier ne = put_other row left v long (k + 1) (omega (arith, low, ne)) ∙ before k (omega (arith, low, ne)) ∙ ap (F k) (sym (put_other row left v long k (omega (arith, low))))

-- the next number of a hand that isn't there
pub row_few : (unseen live c g left : ℕ) → unseen ≤ 136 → live ≤ 136 → c ≤ most_draws left → g ≤ live * most_draws left → (unseen - live) * c + g ≤ 136 * most_draws left
row_few unseen live c g left few some small more = step_few (unseen - live) live c g (most_draws left) (omega arith) small more

pub first_draws : (span : Span) (all : List ℕ) → get_or all 0 0 ≡ 1 → (k : ℕ) → k ≤ 0 → get_or all k 0 ≡ all_draws (unseen_at span k) k
first_draws span all e k low = subst (λ n. get_or all n 0 ≡ all_draws (unseen_at span n) n) (none k low) (e ∙ sym (all_none (unseen_at span 0)))
  where
    none : (n : ℕ) → n ≤ 0 → 0 ≡ n
    none n small = omega (arith, small)
