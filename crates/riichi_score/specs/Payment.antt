-- What a win pays, and what the winner gains.
use Rattle.std.specs.Prelude.{ℕ, ◌+◌, ◌*◌, ◌/◌, Bool, if◌then◌else◌}
use Rattle.riichi_hand.specs.declared.win.By.{By}
use Rattle.riichi_hand.specs.declared.win.By.TheVariants as by
use Rattle.riichi_hand.specs.declared.win.WinParts.{WinParts}
use Rattle.riichi_hand.specs.Win.{is_dealer}
use Rattle.riichi_score.specs.declared.payers.Payment.{Payment}
use Rattle.riichi_score.specs.declared.payers.Payment.TheVariants.{Ron, Tsumo, DealerTsumo}

-- rounded up to the next hundred
abbrev pub up : ℕ → ℕ
up points = (points + 99) / 100 * 100

-- a discarder pays four times the base points, to the dealer six times, and 300 for each counter
abbrev pub by_ron : ℕ → Bool → ℕ → Payment
by_ron base dealer counters = Ron (up ((if dealer then 6 else 4) * base) + 300 * counters)

-- each pays a winning dealer twice the base points; each other pays another winner the base points, the dealer twice that; and each payer 100 more for each counter
abbrev pub by_tsumo : ℕ → Bool → ℕ → Payment
by_tsumo base dealer counters =
    if dealer then DealerTsumo (up (2 * base) + 100 * counters)
    else Tsumo (up base + 100 * counters) (up (2 * base) + 100 * counters)

abbrev pub paid_for : ℕ → By → Bool → ℕ → Payment
paid_for base by.Ron dealer counters = by_ron base dealer counters
paid_for base by.Tsumo dealer counters = by_tsumo base dealer counters

-- what is paid for a win of so many base points
abbrev pub payment_of : ℕ → WinParts → Payment
payment_of base win = paid_for base win.by (is_dealer win.seat) win.counters

-- all that is paid
abbrev pub paid : Payment → ℕ
paid (Ron points) = points
paid (Tsumo other dealer) = 2 * other + dealer
paid (DealerTsumo each) = 3 * each

-- all that is paid, and 1000 for each stick
abbrev pub gain_of : Payment → ℕ → ℕ
gain_of payment sticks = paid payment + 1000 * sticks
