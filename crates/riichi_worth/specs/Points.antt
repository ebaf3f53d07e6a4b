-- A number of 192 bits in three parts.
use Rattle.std.proofs.Common.{◌≡◌, ◌+◌, ◌*◌, ◌/◌, ◌%◌, ◌<◌, arith}
use Rattle.riichi_worth.specs.declared.points.Points.TheInside.{Inside}

-- they are those of their number
pub parts_back : (parts : Inside) → parts.low < 18446744073709551616 → parts.middle < 18446744073709551616
    → record {
      low = (parts.low + parts.middle * 18446744073709551616 + parts.high * 340282366920938463463374607431768211456) % 18446744073709551616;
      middle = (parts.low + parts.middle * 18446744073709551616 + parts.high * 340282366920938463463374607431768211456) / 18446744073709551616 % 18446744073709551616;
      high = (parts.low + parts.middle * 18446744073709551616 + parts.high * 340282366920938463463374607431768211456) / 340282366920938463463374607431768211456;
    } ≡ parts
parts_back parts low_small middle_small = λ i. record { low = low i; middle = middle i; high = high i }
  where
    low : (parts.low + parts.middle * 18446744073709551616 + parts.high * 340282366920938463463374607431768211456) % 18446744073709551616 ≡ parts.low
    low = omega (arith, low_small)

    middle : (parts.low + parts.middle * 18446744073709551616 + parts.high * 340282366920938463463374607431768211456) / 18446744073709551616 % 18446744073709551616 ≡ parts.middle
    middle = omega (arith, low_small, middle_small)

    high : (parts.low + parts.middle * 18446744073709551616 + parts.high * 340282366920938463463374607431768211456) / 340282366920938463463374607431768211456 ≡ parts.high
    high = omega (arith, low_small, middle_small)
