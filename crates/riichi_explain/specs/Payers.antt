-- Who pays what.
use Rattle.std.specs.Prelude.{ℕ, ◌+◌, ◌*◌, Bool, List, [], ◌∷◌, if◌then◌else◌}
use Rattle.std.specs.List.{sum_by}
use Rattle.riichi_hand.specs.declared.win.By.{By}
use Rattle.riichi_hand.specs.declared.win.By.TheVariants.{Ron, Tsumo}
use Rattle.riichi_hand.specs.declared.win.WinParts.{WinParts}
use Rattle.riichi_hand.specs.Win.{is_dealer}
use Rattle.riichi_score.specs.Payment.{up}
use Rattle.riichi_explain.specs.declared.payers.Payer.{Payer}
use Rattle.riichi_explain.specs.declared.payers.Payer.TheVariants.{Discarder, Dealer, TwoOthers, ThreeOthers}
use Rattle.riichi_explain.specs.declared.payers.PayRow.{PayRow}

abbrev pub row : Payer → ℕ → ℕ → PayRow
row payer points counters = record { payer = payer; points = points; counters = counters }

-- a discarder pays four times the base points, to the dealer six times, and 300 for each counter
abbrev pub ron_rows : ℕ → Bool → ℕ → List PayRow
ron_rows base dealer counters = row Discarder (up ((if dealer then 6 else 4) * base)) (300 * counters) ∷ []

-- each pays a winning dealer twice the base points; the dealer pays another winner as much, each other the base points; and each payer 100 for each counter
abbrev pub tsumo_rows : ℕ → Bool → ℕ → List PayRow
tsumo_rows base dealer counters =
    if dealer then row ThreeOthers (up (2 * base)) (100 * counters) ∷ []
    else row Dealer (up (2 * base)) (100 * counters) ∷ row TwoOthers (up base) (100 * counters) ∷ []

abbrev pub rows_by : ℕ → By → Bool → ℕ → List PayRow
rows_by base Ron dealer counters = ron_rows base dealer counters
rows_by base Tsumo dealer counters = tsumo_rows base dealer counters

-- who pays what for a win of so many base points
abbrev pub pay_rows : ℕ → WinParts → List PayRow
pay_rows base win = rows_by base win.by (is_dealer win.seat) win.counters

-- how many players a row speaks of, each of whom pays as much
abbrev pub payers : Payer → ℕ
payers Discarder = 1
payers Dealer = 1
payers TwoOthers = 2
payers ThreeOthers = 3

-- what rows add up to
abbrev pub paid_in : PayRow → ℕ
paid_in row = payers row.payer * (row.points + row.counters)

abbrev pub pay_total : List PayRow → ℕ
pay_total rows = sum_by paid_in rows
