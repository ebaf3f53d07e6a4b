-- How great a number of some digits can be.
use Rattle.std.proofs.Common.{ℕ, zero, suc, ◌*◌}

-- the first number that has more digits
abbrev pub most : ℕ → ℕ
most zero = 1
most (suc digits) = 10 * most digits
