-- The parts of shared points add up to all of them.
use Rattle.std.proofs.Common.{◌≡◌, ℤ, pos, negsuc, ◌+ℤ◌, arith}
use Rattle.std.proofs.lemmas.Int.{ints}
use Rattle.riichi_places.specs.Bonuses.{part_of}

pub one_part : (points : ℤ) → part_of points 1 0 ≡ points
unfolding part_of
one_part (pos n) = omega (arith, ints)
one_part (negsuc n) = omega (arith, ints)

pub two_parts : (points : ℤ) → part_of points 2 0 +ℤ part_of points 2 1 ≡ points
unfolding part_of
two_parts (pos n) = omega (arith, ints)
two_parts (negsuc n) = omega (arith, ints)

pub three_parts : (points : ℤ) → part_of points 3 0 +ℤ part_of points 3 1 +ℤ part_of points 3 2 ≡ points
unfolding part_of
three_parts (pos n) = omega (arith, ints)
three_parts (negsuc n) = omega (arith, ints)

pub four_parts : (points : ℤ) → part_of points 4 0 +ℤ part_of points 4 1 +ℤ part_of points 4 2 +ℤ part_of points 4 3 ≡ points
unfolding part_of
four_parts (pos n) = omega (arith, ints)
four_parts (negsuc n) = omega (arith, ints)
