-- What a hand is worth in a game.
use Rattle.std.specs.Prelude.{ℕ, Option, Some, None, Result, Ok, Err}
use Rattle.riichi_hand.specs.declared.fault.LineCode.TheVariants.{H4}
use Rattle.riichi_hand.specs.declared.fault.LineFault.{LineFault}
use Rattle.riichi_hand.specs.declared.fault.LineFault.TheVariants.{Line}
use Rattle.riichi_hand.specs.declared.win.By.{By}
use Rattle.riichi_hand.specs.declared.win.WinParts.{WinParts}
use Rattle.riichi_table.specs.declared.player.Player.{Player}
use Rattle.riichi_table.specs.declared.rules.TableRules.{TableRules}
use Rattle.riichi_table.specs.declared.state.GameState.{GameState}
use Rattle.riichi_table.specs.declared.worth.Worth.{Worth}
use Rattle.riichi_game.specs.Hands.{record_of, worth_of_win}
use Rattle.riichi_game.specs.declared.hands.NoWorth.{NoWorth}
use Rattle.riichi_game.specs.declared.hands.NoWorth.TheVariants.{NoYaku, NoWin}
use Rattle.riichi_win_arrays.specs.ScoreRows.{fault_number}
use Rattle.riichi_win_arrays.specs.WinRows.{parts_in_row}
use Rattle.riichi_win_arrays.specs.declared.win_row.WinRow.{WinRow}
use Rattle.riichi_game_rows.specs.declared.hand_row.HandFault.{HandFault}
use Rattle.riichi_game_rows.specs.declared.hand_row.HandFault.TheVariants.{Refused, Worthless}

abbrev pub or_worthless : Result Worth NoWorth → Result Worth HandFault
or_worthless (Ok worth) = Ok worth
or_worthless (Err none) = Err (Worthless none)

abbrev pub worth_of_record : Result WinParts LineFault → Result Worth HandFault
worth_of_record (Ok win) = or_worthless (worth_of_win win)
worth_of_record (Err fault) = Err (Refused fault)

-- a row that says nothing has the fault of a value that can't be
abbrev pub worth_by : GameState → TableRules → Player → By → Option WinParts → Result Worth HandFault
worth_by state rules winner by None = Err (Refused (Line H4))
worth_by state rules winner by (Some parts) = worth_of_record (record_of state rules winner by parts)

-- what the hand of a row is worth, with what the table knows of the winner
abbrev pub worth_of_row : GameState → TableRules → Player → By → WinRow → Result Worth HandFault
worth_of_row state rules winner by row = worth_by state rules winner by (parts_in_row rules.hand row)

-- as it is told of a win
abbrev pub told_number : Result Worth HandFault → ℕ
told_number (Ok worth) = 100
told_number (Err (Worthless NoYaku)) = 101
told_number (Err (Worthless NoWin)) = 102
told_number (Err (Refused fault)) = fault_number fault
