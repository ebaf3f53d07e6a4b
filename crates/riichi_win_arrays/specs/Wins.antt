-- What is told of the wins of some rows.
use Rattle.std.specs.Prelude.{◌≡◌, ℕ, List, ◌++◌, map, take, drop, Option, Some, None, Result, Ok, Err}
use Rattle.riichi_hand.specs.Win.{win_of}
use Rattle.riichi_hand.specs.declared.fault.LineCode.TheVariants.{H4}
use Rattle.riichi_hand.specs.declared.fault.LineFault.{LineFault}
use Rattle.riichi_hand.specs.declared.fault.LineFault.TheVariants.{Line}
use Rattle.riichi_hand.specs.Rules.{Rules}
use Rattle.riichi_hand.specs.declared.win.WinParts.{WinParts}
use Rattle.riichi_score.specs.Best.{best_of}
use Rattle.riichi_score.specs.declared.answer.WinAnswer.{WinAnswer}
use Rattle.riichi_win_arrays.specs.ScoreRows.{score_row}
use Rattle.riichi_win_arrays.specs.WinRows.{parts_in_row}
use Rattle.riichi_win_arrays.specs.declared.score_row.ScoreRow.{ScoreRow}
use Rattle.riichi_win_arrays.specs.declared.win_row.WinRow.{WinRow}

abbrev pub worth_of : Result WinParts LineFault → Result WinAnswer LineFault
worth_of (Ok win) = Ok (best_of win)
worth_of (Err fault) = Err fault

-- the best score of a record of these parts, or the first fault for which they are none
abbrev pub answer_by : Option WinParts → Result WinAnswer LineFault
answer_by None = Err (Line H4)
answer_by (Some parts) = worth_of (win_of parts)

abbrev pub answer_to : Rules → WinRow → Result WinAnswer LineFault
answer_to rules row = answer_by (parts_in_row rules row)

abbrev pub told_win : Rules → WinRow → ScoreRow
told_win rules row = score_row (answer_to rules row)

-- The first places have what is told of the wins, the others what they had.
abbrev pub AreScored : Rules → ℕ → List WinRow → List ScoreRow → List ScoreRow → Type 0
AreScored rules rows wins before after = after ≡ map (told_win rules) (take rows wins) ++ drop rows before
