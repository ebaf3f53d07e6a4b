-- What the numbers below one give, the greatest first.
use Rattle.std.proofs.Common.{◌≡◌, ℕ, zero, suc, ◌+◌, ◌-◌, ◌<◌, ◌≤◌, List, [], ◌++◌, inl, inr, sym, ap, subst, ◌∙◌, arith}
use Rattle.std.proofs.lemmas.Bool.{cases_eq}
use Rattle.riichi_split.specs.Cuts.{falling}
use Rattle.riichi_tiles.proofs.Members.{IsIn, in-cases, in-left, in-right}
use Rattle.riichi_split.proofs.Lists.{Differ, Differ-append}

module _ {X : Type 0} (f : ℕ → List X) where
  step : (n m : ℕ) → n ≡ suc m → falling f n ≡ f m ++ falling f m
  unfolding falling
  step n m e = ap (falling f) e

  pub falling-step : (n : ℕ) → 0 < n → falling f n ≡ f (n - 1) ++ falling f (n - 1)
  falling-step n l = step n (n - 1) (omega arith)

  pub falling-none : (n : ℕ) → n ≡ 0 → falling f n ≡ []
  unfolding falling
  falling-none n e = ap (falling f) e

  skip : (fewer more : ℕ) → ((x : ℕ) → fewer ≤ x → x < fewer + more → f x ≡ []) → falling f (fewer + more) ≡ falling f fewer
  skip fewer zero none = ap (falling f) (let same : fewer + 0 ≡ fewer = omega arith in same)
  skip fewer (suc more) none =
      step (fewer + suc more) (fewer + more) (omega arith) ∙ ap (λ z. z ++ falling f (fewer + more)) (none (fewer + more) (omega arith) (omega arith))
      ∙ skip fewer more (λ x a b. none x a (omega arith))

  -- numbers that give nothing
  pub falling-passed : (fewer n : ℕ) → fewer ≤ n → ((x : ℕ) → fewer ≤ x → x < n → f x ≡ []) → falling f n ≡ falling f fewer
  falling-passed fewer n l none =
      let whole : fewer + (n - fewer) ≡ n = omega arith in
      ap (falling f) (sym whole) ∙ skip fewer (n - fewer) (λ x a b. none x a (omega arith))

  pub in-falling : (y : X) (x n : ℕ) → x < n → IsIn y (f x) → IsIn y (falling f n)
  unfolding falling
  in-falling y x zero l h = absurd (omega arith)
  in-falling y x (suc n) l h = elim (cases_eq x n) [
    | inl e ↦ in-left y (f n) (falling f n) (subst (λ (k : ℕ). IsIn y (f k)) e h)
    | inr u ↦ in-right y (f n) (falling f n) (in-falling y x n (omega arith) h)
  ]

  pub falling-inv : (y : X) (n : ℕ) → IsIn y (falling f n) → (x : ℕ) × (x < n) × IsIn y (f x)
  unfolding falling
  falling-inv y zero h = absurd h
  falling-inv y (suc n) h =
      elim (in-cases y (f n) (falling f n) h) [ inl a ↦ (n, omega arith, a) | inr b ↦ let i = falling-inv y n b in (i.0, omega (arith, i.1), i.2) ]

  pub Differ-falling : (n : ℕ) → ((x : ℕ) → Differ (f x)) → ((a b : ℕ) (y : X) → IsIn y (f a) → IsIn y (f b) → a ≡ b) → Differ (falling f n)
  unfolding falling
  Differ-falling zero d s = tt
  Differ-falling (suc n) d s =
      Differ-append (f n) (falling f n) (d n) (Differ-falling n d s) (λ y a b. let i = falling-inv y n b in absurd (omega (arith, s n i.0 y a i.2, i.1)))
