-- What is told of a win, as a row.
use Rattle.std.specs.Prelude.{ℕ, Result, Ok, Err}
use Rattle.riichi_hand.specs.declared.fault.LineCode.{LineCode}
use Rattle.riichi_hand.specs.declared.fault.LineCode.TheVariants.{H1, H2, H3, H4, H5, H6, H7, H8, H9, H10, H11, H12, H13, H14, H15, H16}
use Rattle.riichi_hand.specs.declared.fault.LineFault.{LineFault}
use Rattle.riichi_hand.specs.declared.fault.LineFault.TheVariants.{Line, Notation}
use Rattle.riichi_score.specs.declared.answer.WinAnswer.{WinAnswer}
use Rattle.riichi_score.specs.declared.answer.WinAnswer.TheVariants.{Won, NoYaku, NoWin}
use Rattle.riichi_score.specs.declared.payers.Payment.{Payment}
use Rattle.riichi_score.specs.declared.payers.Payment.TheVariants.{Ron, Tsumo, DealerTsumo}
use Rattle.riichi_score.specs.declared.score.Score.{Score}
use Rattle.riichi_win_arrays.specs.declared.score_row.Paid.{Paid}
use Rattle.riichi_win_arrays.specs.declared.score_row.ScoreRow.{ScoreRow}

abbrev pub code_number : LineCode → ℕ
code_number H1 = 1
code_number H2 = 2
code_number H3 = 3
code_number H4 = 4
code_number H5 = 5
code_number H6 = 6
code_number H7 = 7
code_number H8 = 8
code_number H9 = 9
code_number H10 = 10
code_number H11 = 11
code_number H12 = 12
code_number H13 = 13
code_number H14 = 14
code_number H15 = 15
code_number H16 = 16

-- (no record has a fault of notation)
abbrev pub fault_number : LineFault → ℕ
fault_number (Line code) = code_number code
fault_number (Notation name fault) = 4

-- without a score
abbrev pub only : ℕ → ScoreRow
only told = record { yaku = 0; base = 0; gain = 0; discarder = 0; dealer = 0; other = 0; told = told; han = 0; fu = 0; dora = 0 }

-- what each payer pays
abbrev pub paid_by : Payment → Paid
paid_by (Ron points) = record { discarder = points; dealer = 0; other = 0 }
paid_by (Tsumo other dealer) = record { discarder = 0; dealer = dealer; other = other }
paid_by (DealerTsumo each) = record { discarder = 0; dealer = 0; other = each }

abbrev pub won : Score → ScoreRow
won score = record {
  yaku = score.yaku;
  base = score.base;
  gain = score.gain;
  discarder = (paid_by score.payment).discarder;
  dealer = (paid_by score.payment).dealer;
  other = (paid_by score.payment).other;
  told = 100;
  han = score.han;
  fu = score.fu;
  dora = score.dora;
}

abbrev pub score_row : Result WinAnswer LineFault → ScoreRow
score_row (Ok (Won score)) = won score
score_row (Ok NoYaku) = only 101
score_row (Ok NoWin) = only 102
score_row (Err fault) = only (fault_number fault)
