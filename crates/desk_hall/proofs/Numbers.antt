-- What tests of numbers tell.
use Rattle.std.proofs.Common.{◌≡◌, ℕ, suc, ◌<◌, ◌≤◌, true, false, nat_eq, nat_lt, inl, inr, sym, ◌∙◌, arith}
use Rattle.std.proofs.lemmas.Bool.{eq-eqb, ne_eqb}
use Rattle.std.proofs.lemmas.Bool.Decides.{nat_tests, eqb_tells}

pub not_zero : (number : ℕ) → nat_eq number 0 ≡ false → 0 < number
not_zero number some = grind (arith, nat_tests)

pub not_less : (one other : ℕ) → nat_lt one other ≡ false → other ≤ one
not_less one other is = grind (arith, nat_tests)

pub not_below : (one other : ℕ) → other ≤ one → nat_lt one other ≡ false
not_below one other most = grind (arith, nat_tests)

pub other_number : (one other : ℕ) → nat_eq one other ≡ false → one ≡ other → ⊥
other_number one other is same = let is_same : nat_eq one other ≡ true = eq-eqb one other same in absurd (cc)

pub both_next : (one other : ℕ) → nat_eq (suc one) (suc other) ≡ nat_eq one other
both_next one other = elim (eqb_tells one other) [
  | inl same ↦ eq-eqb (suc one) (suc other) (omega (arith, same.1)) ∙ sym same.0
  | inr differ ↦ ne_eqb (suc one) (suc other) (λ is. differ.1 (omega (arith, is))) ∙ sym differ.0
]

pub zero_next : (number : ℕ) → nat_eq 0 (suc number) ≡ false
zero_next number = ne_eqb 0 (suc number) (λ is. omega (arith, is))

pub next_zero : (number : ℕ) → nat_eq (suc number) 0 ≡ false
next_zero number = ne_eqb (suc number) 0 (λ is. omega (arith, is))
