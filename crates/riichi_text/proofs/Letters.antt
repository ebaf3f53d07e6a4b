-- The letters of the kinds among the bytes.
use Rattle.std.proofs.Common.{ℕ, ◌<◌, ◌≤◌, arith}
use Rattle.std.proofs.lemmas.Bool.Decides.{nat_tests}
use Rattle.riichi_text.specs.Tiles.{letter_of}

-- above each digit and the quotation mark
pub letter_high : (kind : ℕ) → 100 ≤ letter_of kind
letter_high kind = grind (arith, nat_tests)

-- ASCII
pub letter_below : (kind : ℕ) → letter_of kind < 128
letter_below kind = grind (arith, nat_tests)
