-- The price of limits needs no rounding.
use Rattle.std.proofs.Common.{◌≡◌, ℕ, ◌*◌, arith}
use Rattle.riichi_score.specs.Payment.{up}

pub limits_are_hundreds : (number limits : ℕ) → up (number * (8000 * limits)) ≡ number * (8000 * limits)
limits_are_hundreds number limits = omega arith
