-- How great a number of some digits can be.
use Rattle.std.proofs.Common.{ℕ, zero, suc, ◌*◌, ◌≤◌, arith}

-- the first number that has more digits
abbrev pub most : ℕ → ℕ
most zero = 1
most (suc digits) = 10 * most digits

pub most_rises : (few digits : ℕ) → few ≤ digits → most few ≤ most digits
most_rises zero zero within = omega arith
most_rises zero (suc digits) within = let h : most zero ≤ most digits = most_rises zero digits (omega arith) in omega (arith, h)
most_rises (suc few) zero within = absurd (omega arith)
most_rises (suc few) (suc digits) within = let h : most few ≤ most digits = most_rises few digits (omega arith) in omega (arith, h)

pub most_seven : (digits : ℕ) → digits ≤ 7 → most digits ≤ 10000000
most_seven digits within = most_rises digits 7 within

pub most_nine : (digits : ℕ) → digits ≤ 9 → most digits ≤ 1000000000
most_nine digits within = most_rises digits 9 within
