-- What a hand is worth.
use Rattle.std.specs.Prelude.{ℕ, ◌*◌}
use Rattle.riichi_table.specs.declared.worth.Worth.{Worth}
use Rattle.riichi_table.specs.declared.worth.Worth.TheVariants.{Counted, Yakuman}

-- a limit of a yakuman is 8000 base points
abbrev pub base_of_worth : Worth → ℕ
base_of_worth (Counted base) = base
base_of_worth (Yakuman limits) = 8000 * limits

abbrev pub limits_of_worth : Worth → ℕ
limits_of_worth (Counted base) = 0
limits_of_worth (Yakuman limits) = limits
