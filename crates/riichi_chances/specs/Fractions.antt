-- Parts of a whole.
use Rattle.std.specs.Prelude.{◌≡◌, ℕ, zero, suc, ◌+◌, ◌*◌, ◌/◌, ◌%◌, ◌<◌, ◌≤◌}
use Rattle.std.specs.Int.{IsGcd}
use Rattle.riichi_chances.specs.declared.fraction.Fraction.{Fraction}

-- the same part of a whole, in the smallest numbers
pub record IsReduced (given reduced : Fraction) : Type 0 where
  pub same : reduced.part * given.whole ≡ given.part * reduced.whole
  pub lowest : IsGcd reduced.part reduced.whole 1

-- No other number of ten thousandths is nearer, and of two that are as near it is the greater: twice it, less and more one, bounds the part twice.
pub record IsNearest (given : Fraction) (number : ℕ) : Type 0 where
  pub not_above : 2 * number * given.whole ≤ 2 * 10000 * given.part + given.whole
  pub not_below : 2 * 10000 * given.part < 2 * number * given.whole + given.whole

-- ---- the same as values

-- by steps of Euclid, so many at most
abbrev pub divisor_within : ℕ → ℕ → ℕ → ℕ
divisor_within zero one other = one
divisor_within (suc steps) one zero = one
divisor_within (suc steps) one (suc other) = divisor_within steps (suc other) (one % suc other)

-- the greatest number that divides both
unfoldable pub greatest_divisor : ℕ → ℕ → ℕ
greatest_divisor one other = divisor_within (suc other) one other

abbrev pub divided_by : Fraction → ℕ → Fraction
divided_by given divisor = record { part = given.part / divisor; whole = given.whole / divisor }

unfoldable pub in_lowest_terms : Fraction → Fraction
in_lowest_terms given = divided_by given (greatest_divisor given.part given.whole)

unfoldable pub nearest : Fraction → ℕ
nearest given = (2 * 10000 * given.part + given.whole) / (2 * given.whole)
