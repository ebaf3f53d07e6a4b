-- What a hand costs.
use Rattle.std.specs.Prelude.{ℕ, ◌*◌, Bool, if◌then◌else◌}
use Rattle.riichi_score.specs.Payment.{up}
use Rattle.riichi_table.specs.Worths.{base_of_worth}
use Rattle.riichi_table.specs.declared.worth.Worth.{Worth}

-- so many times the base points, rounded up to a hundred
unfoldable pub times_base : ℕ → Worth → ℕ
times_base number worth = up (number * base_of_worth worth)

-- a discard costs four times the base points, to the dealer six times
abbrev pub ron_price : Worth → Bool → ℕ
ron_price worth dealer = times_base (if dealer then 6 else 4) worth

-- a self-draw costs each other player the base points; twice that where this player or the winner is dealer
abbrev pub tsumo_price : Worth → Bool → ℕ
tsumo_price worth dealer = times_base (if dealer then 2 else 1) worth
