-- What a player wins, as a row.
use Rattle.std.specs.Prelude.{ℕ, ◌-◌, ◌==◌, ◌&&◌, nat_lt, nat_le, Bool, Option, Some, None, if◌then◌else◌}
use Rattle.riichi_hand.specs.Rules.{Rules}
use Rattle.riichi_hand.specs.declared.win.By.{By}
use Rattle.riichi_score.specs.Base.{base_of}
use Rattle.riichi_table.specs.declared.outcome.Liable.{Liable}
use Rattle.riichi_table.specs.declared.outcome.Win.{Win}
use Rattle.riichi_table.specs.declared.worth.Worth.{Worth}
use Rattle.riichi_table.specs.declared.worth.Worth.TheVariants.{Counted, Yakuman}
use Rattle.riichi_game.specs.Values.{occurs}
use Rattle.riichi_game_rows.specs.Fours.{player_numbered}
use Rattle.riichi_game_rows.specs.declared.worth_row.WorthRow.{WorthRow}

-- a player who doesn't win
abbrev pub no_worth : WorthRow
no_worth = record { base = 0; limits = 0; kind = 0; liable = 0; liable_limits = 0 }

-- a kind that there is, and nobody or one of the four players
abbrev pub is_worth_row : WorthRow → Bool
is_worth_row row = nat_lt row.kind 3 && nat_le row.liable 4

abbrev pub row_worth : WorthRow → Worth
row_worth row = if row.kind == 1 then Counted row.base else Yakuman row.limits

abbrev pub row_liable : WorthRow → Option Liable
row_liable row =
    if row.liable == 0 then None else Some (record { player = player_numbered (row.liable - 1); limits = row.liable_limits })

-- what the player wins, if anything
abbrev pub row_win : WorthRow → Option Win
row_win row = if row.kind == 0 then None else Some (record { worth = row_worth row; liable = row_liable row })

-- a worth that nobody is liable for
abbrev pub worth_row : Worth → WorthRow
worth_row (Counted base) = record no_worth { base = base; kind = 1 }
worth_row (Yakuman limits) = record no_worth { limits = limits; kind = 2 }

-- the base points of a hand of so many han and fu; 0 where no hand has so many
abbrev pub counted_base : Rules → By → ℕ → ℕ → ℕ
counted_base rules by han fu = if occurs rules by han fu then base_of rules han fu else 0
