-- What a common divisor leaves of a part and its whole, and the digits of a part.
use Rattle.std.proofs.Common.{◌≡◌, ℕ, zero, suc, ◌+◌, ◌-◌, ◌*◌, ◌/◌, ◌%◌, ◌^◌, ◌<◌, ◌≤◌, refl, ap, subst, sym, ◌∙◌, arith}
use Rattle.std.proofs.Math.Nat.{add-mul, div-eq_of_lt-le, div-mul_cancel, dvd_of_mul-dvd-mul_right, le_of_mul-le-mul_right, mod-lt, mul_assoc, mul-dvd-mul_right, mul-le-mul_right, one-dvd, pos_of_dvd_of_pos, pow-suc}
use Rattle.std.proofs.lemmas.Nat.Gcd.{IsGcd-from_mod, IsGcd-from_zero, same_from_IsGcd}
use Rattle.std.specs.Int.{IsGcd}
use Prim.Native.Nat.{◌∣◌}
use Rattle.riichi_chances.specs.Fractions.{IsNearest, IsReduced, divided_by, divisor_within, greatest_divisor, in_lowest_terms, nearest}
use Rattle.riichi_chances.specs.declared.fraction.Fraction.{Fraction}

pub is_more : (part whole divisor : ℕ) → IsGcd part whole divisor → 0 < whole → 0 < divisor
is_more part whole divisor is more = pos_of_dvd_of_pos is.1 more

lowest : (part whole divisor : ℕ) → 0 < divisor → IsGcd part whole divisor → IsGcd (part / divisor) (whole / divisor) 1
lowest part whole divisor more is = (one-dvd (part / divisor), one-dvd (whole / divisor), least)
  where
    times : (n d : ℕ) → divisor ∣ n → d ∣ n / divisor → d * divisor ∣ n
    times n d by of = subst (λ m. d * divisor ∣ m) (div-mul_cancel divisor by) (mul-dvd-mul_right d of divisor)

    one_times : 1 * divisor ≡ divisor
    one_times = omega arith

    least : (d : ℕ) → d ∣ part / divisor → d ∣ whole / divisor → d ∣ 1
    least d of_part of_whole =
        dvd_of_mul-dvd-mul_right d more (subst (λ m. d * divisor ∣ m) (sym one_times) (is.2 (d * divisor) (times part d is.0 of_part) (times whole d is.1 of_whole)))

pub reduced : (given : Fraction) (divisor : ℕ) → 0 < given.whole → IsGcd given.part given.whole divisor → IsReduced given (record { part = given.part / divisor; whole = given.whole / divisor })
reduced given divisor more is = record { same = same; lowest = lowest given.part given.whole divisor (is_more given.part given.whole divisor is more) is }
  where
    same : given.part / divisor * given.whole ≡ given.part * (given.whole / divisor)
    same =
        let part = div-mul_cancel divisor is.0 in
        let whole = div-mul_cancel divisor is.1 in
        omega (arith, ap (λ n. given.part / divisor * n) whole, ap (λ n. n * (given.whole / divisor)) part)

-- so many digits of a part, and what is left of it
pub record AreDigits (part whole number rest count : ℕ) : Type 0 where
  pub all : number * whole + rest ≡ part * 10 ^ count
  pub less : rest < whole
  pub few : number ≤ 10 ^ count

pub with_digit : (part whole number rest count digit left : ℕ) → 0 < whole → part ≤ whole → AreDigits part whole number rest count → 10 * rest ≡ digit * whole + left → left < whole
    → AreDigits part whole (10 * number + digit) left (count + 1)
with_digit part whole number rest count digit left more within are parts less = record { all = all; less = less; few = le_of_mul-le-mul_right few more }
  where
    all : (10 * number + digit) * whole + left ≡ part * 10 ^ (count + 1)
    all =
        let split = add-mul (10 * number) digit whole in
        let ten = mul_assoc 10 number whole in
        let one : count + 1 ≡ suc count = omega arith in
        let power = ap (λ n. part * 10 ^ n) one ∙ ap (λ n. part * n) (pow-suc 10 count) in
        let times = sym (mul_assoc part (10 ^ count) 10) in
        omega (arith, split, ten, parts, are.all, power, times)

    few : (10 * number + digit) * whole ≤ 10 ^ (count + 1) * whole
    few = omega (arith, all, mul-le-mul_right (10 ^ (count + 1)) within)

-- ---- as values

divides_both : (steps one other : ℕ) → other < steps → IsGcd one other (divisor_within steps one other)
divides_both zero one other more = absurd (omega (arith, more))
divides_both (suc steps) one zero more = IsGcd-from_zero one 0 refl
divides_both (suc steps) one (suc other) more =
    IsGcd-from_mod one (suc other) (divisor_within steps (suc other) (one % suc other)) (divides_both steps (suc other) (one % suc other) (omega (arith, mod-lt one {m = suc other} (omega arith), more)))

pub lowest_is : (given : Fraction) (divisor : ℕ) → IsGcd given.part given.whole divisor → divided_by given divisor ≡ in_lowest_terms given
unfolding in_lowest_terms greatest_divisor
lowest_is given divisor is = ap (divided_by given) (same_from_IsGcd given.part given.whole divisor (greatest_divisor given.part given.whole) is (divides_both (suc given.whole) given.part given.whole (omega arith)))

pub nearest_is : (given : Fraction) (number : ℕ) → IsNearest given number → number ≡ nearest given
unfolding nearest
nearest_is given number is = sym (div-eq_of_lt-le (2 * given.whole) (omega (arith, is.not_above, over number)) (omega (arith, is.not_below, over (number + 1))))
  where
    over : (n : ℕ) → n * (2 * given.whole) ≡ 2 * n * given.whole
    over n = omega arith

-- four digits, and the next number where what is left is a half or more
module _ (given : Fraction) (number rest count : ℕ) (four : count ≡ 4) (are : AreDigits given.part given.whole number rest count) where
  all : number * given.whole + rest ≡ 10000 * given.part
  all = omega (arith, are.all, ap (λ n. given.part * 10 ^ n) four)

  twice : (n : ℕ) → 2 * n * given.whole ≡ 2 * (n * given.whole)
  twice n = omega arith

  pub rounded_down : rest < given.whole - rest → number ≡ nearest given
  rounded_down less = nearest_is given number (record { not_above = omega (arith, all, twice number); not_below = omega (arith, all, twice number, less) })

  pub rounded_up : given.whole - rest ≤ rest → number + 1 ≡ nearest given
  rounded_up more = nearest_is given (number + 1) (record { not_above = omega (arith, all, twice (number + 1), more, are.less, next); not_below = omega (arith, all, twice (number + 1), are.less, next) })
    where
      next : (number + 1) * given.whole ≡ number * given.whole + given.whole
      next = omega arith
