-- A number of 128 bits in two halves.
use Rattle.std.proofs.Common.{◌≡◌, ◌+◌, ◌*◌, ◌/◌, ◌%◌, ◌<◌, arith}
use Rattle.riichi_chances.specs.declared.halves.Halves.TheInside.{Inside}

-- they are those of their number
pub halves_back : (halves : Inside) → halves.low < 18446744073709551616 → record { low = (halves.low + halves.high * 18446744073709551616) % 18446744073709551616; high = (halves.low + halves.high * 18446744073709551616) / 18446744073709551616 } ≡ halves
halves_back halves small = λ i. record { low = low i; high = high i }
  where
    low : (halves.low + halves.high * 18446744073709551616) % 18446744073709551616 ≡ halves.low
    low = omega (arith, small)

    high : (halves.low + halves.high * 18446744073709551616) / 18446744073709551616 ≡ halves.high
    high = omega (arith, small)
