-- Numbers in three parts of 64 bits.
use Rattle.std.proofs.Common.{◌≡◌, ℕ, suc, ◌+◌, ◌-◌, ◌*◌, ◌/◌, ◌%◌, ◌^◌, ◌<◌, ◌≤◌, sym, ap, ◌∙◌, arith}
use Rattle.std.proofs.Math.Nat.{mod-eq_of_lt, pow-suc}
use Rattle.std.proofs.Math.Pow.{pow_mono}

-- the parts of a sum, with what each carries over
pub carried : (low middle high : ℕ) →
    low % 18446744073709551616 + (middle + low / 18446744073709551616) % 18446744073709551616 * 18446744073709551616 + (high + (middle + low / 18446744073709551616) / 18446744073709551616) * 340282366920938463463374607431768211456
    ≡ low + middle * 18446744073709551616 + high * 340282366920938463463374607431768211456
carried low middle high = omega arith

pub times_parts : (times low middle high : ℕ) → times * (low + middle * 18446744073709551616 + high * 340282366920938463463374607431768211456) ≡ times * low + times * middle * 18446744073709551616 + times * high * 340282366920938463463374607431768211456
times_parts times low middle high = omega arith

-- the last part fits where the whole does
pub last_fits : (low middle high : ℕ) → low + middle * 18446744073709551616 + high * 340282366920938463463374607431768211456 < 2 ^ 192 → high < 18446744073709551616
last_fits low middle high few = omega (arith, few)

-- ---- a division, by halves

-- so many times a whole, and twice so many
pub twice : (n whole : ℕ) → 2 ^ (n + 1) * whole ≡ 2 ^ n * whole + 2 ^ n * whole
twice n whole = ap (λ p. 2 ^ p * whole) (one n) ∙ ap (λ p. p * whole) (pow-suc 2 n) ∙ both (2 ^ n) whole
  where
    one : (m : ℕ) → m + 1 ≡ suc m
    one m = omega arith

    both : (a b : ℕ) → a * 2 * b ≡ a * b + a * b
    both a b = omega arith

pub bit_fits : (n : ℕ) → n ≤ 22 → 1 * 2 ^ n % 4294967296 ≡ 2 ^ n
bit_fits n few = ap (λ m. m % 4294967296) (one (2 ^ n)) ∙ mod-eq_of_lt (small (2 ^ n) (pow_mono few))
  where
    one : (m : ℕ) → 1 * m ≡ m
    one m = omega arith

    small : (m : ℕ) → m ≤ 2 ^ 22 → m < 4294967296
    small m less = omega (arith, less)

-- the powers around a step
power_before : (step : ℕ) → step < 23 → 2 ^ (23 - step) ≡ 2 ^ (22 - step + 1)
power_before step low = ap (λ n. 2 ^ n) (one step low)
  where
    one : (m : ℕ) → m < 23 → 23 - m ≡ 22 - m + 1
    one m less = omega arith

power_after : (step : ℕ) → 2 ^ (23 - (step + 1)) ≡ 2 ^ (22 - step)
power_after step = ap (λ n. 2 ^ n) (one step)
  where
    one : (m : ℕ) → 23 - (m + 1) ≡ 22 - m
    one m = omega arith

-- what holds of a division under way: how often so far, and what is left
pub record IsDivided (whole self step times rest : ℕ) : Type 0 where
  pub sum : times * whole + rest ≡ self
  pub left : rest < 2 ^ (23 - step) * whole
  pub few : times + 2 ^ (23 - step) ≤ 2 ^ 23

-- once more by the next power, which is enough
pub halves : (step times more rest less whole self part : ℕ) → step < 23 → times * whole + rest ≡ self → rest < 2 ^ (23 - step) * whole → times + 2 ^ (23 - step) ≤ 2 ^ 23 → part ≡ 2 ^ (22 - step) * whole → more ≡ times + 2 ^ (22 - step) → less + part ≡ rest
    → IsDivided whole self (step + 1) more less
halves step times more rest less whole self part low sum left few part_is more_is less_is = record {
  sum = omega (arith, sum, less_is, part_is, ap (λ n. n * whole) more_is, both times (2 ^ (22 - step)));
  left = omega (arith, left, ap (λ n. n * whole) (power_before step low), twice (22 - step) whole, less_is, part_is, ap (λ n. n * whole) (power_after step));
  few = omega (arith, few, more_is, power_before step low, twice (22 - step) 1, power_after step);
}
  where
    both : (a b : ℕ) → (a + b) * whole ≡ a * whole + b * whole
    both a b = omega arith

-- or not
pub up_to : (step times same rest other whole self part : ℕ) → step < 23 → times * whole + rest ≡ self → times + 2 ^ (23 - step) ≤ 2 ^ 23 → part ≡ 2 ^ (22 - step) * whole → same ≡ times → other ≡ rest → rest < part → IsDivided whole self (step + 1) same other
up_to step times same rest other whole self part low sum few part_is same_is other_is short = record {
  sum = omega (arith, sum, ap (λ n. n * whole) same_is, other_is);
  left = omega (arith, short, other_is, part_is, ap (λ n. n * whole) (power_after step));
  few = omega (arith, few, same_is, power_before step low, twice (22 - step) 1, power_after step);
}
