-- What holds of every answer: its numbers are those of their types, and its kinds are kinds.
use Rattle.std.specs.Prelude.{ℕ, ◌<◌, ◌≤◌, ◌^◌, List, [], ◌∷◌}
use lib.Signed.{mag}
use Rattle.riichi_score.specs.declared.payers.Payment.{Payment}
use Rattle.riichi_score.specs.declared.payers.Payment.TheVariants.{Ron, Tsumo, DealerTsumo}
use Rattle.riichi_score.specs.declared.score.Score.{Score}
use Rattle.riichi_score.specs.declared.answer.WinAnswer.{WinAnswer}
use Rattle.riichi_score.specs.declared.answer.WinAnswer.TheVariants.{Won, NoYaku, NoWin}
use Rattle.riichi_shape.specs.LiveCopies.{live_in}
use Rattle.riichi_shape.specs.declared.accepts.Accepts.{Accepts}
use Rattle.riichi_shape.specs.declared.accepts.Accepts.TheVariants.{Thirteen, Fourteen}
use Rattle.riichi_shape.specs.declared.discard.Discard.{Discard}
use Rattle.riichi_shape.specs.declared.shape_answer.ShapeAnswer.{ShapeAnswer}
use Rattle.riichi_yaku.specs.declared.table.TheConstants.Yaku.{COUNT}
use Rattle.desk_core.specs.declared.answer.Answer.{Answer}
use Rattle.desk_core.specs.declared.answer.Answer.TheVariants as answer

abbrev pub Each : {X : Type 0} → (X → Type 0) → List X → Type 0
Each P [] = Unit {0}
Each P (x ∷ xs) = P x × Each P xs

abbrev pub IsWholePayment : Payment → Type 0
IsWholePayment (Ron points) = points < 2 ^ 32
IsWholePayment (Tsumo other dealer) = (other < 2 ^ 32) × (dealer < 2 ^ 32)
IsWholePayment (DealerTsumo each) = each < 2 ^ 32

pub record IsWholeScore (score : Score) : Type 0 where
  pub han : score.han < 2 ^ 8
  pub fu : score.fu < 2 ^ 8
  pub dora : score.dora < 2 ^ 8
  pub base : score.base < 2 ^ 32
  pub gain : score.gain < 2 ^ 32
  pub yaku : score.yaku < 2 ^ COUNT
  pub payment : IsWholePayment score.payment

-- a kind with its live copies
abbrev pub IsWholePair : ℕ × ℕ → Type 0
IsWholePair pair = (pair.0 < 34) × (pair.1 ≤ 4)

-- the live copies of all kinds are no more than there are tiles
pub record IsWholeList (pairs : List (ℕ × ℕ)) : Type 0 where
  pub each : Each IsWholePair pairs
  pub live : live_in pairs ≤ 136

pub record IsWholeDiscard (discard : Discard) : Type 0 where
  pub kind : discard.kind < 34
  pub accepted : IsWholeList discard.accepted

abbrev pub IsWholeAccepts : Accepts → Type 0
IsWholeAccepts (Thirteen accepted) = IsWholeList accepted
IsWholeAccepts (Fourteen discards) = Each IsWholeDiscard discards

pub record IsWholeShape (shape : ShapeAnswer) : Type 0 where
  pub shanten : mag shape.shanten < 2 ^ 63
  pub accepts : IsWholeAccepts shape.accepts

abbrev pub IsWholeWin : WinAnswer → Type 0
IsWholeWin (Won score) = IsWholeScore score
IsWholeWin NoYaku = Unit {0}
IsWholeWin NoWin = Unit {0}

abbrev pub IsWhole : Answer → Type 0
IsWhole (answer.Win win) = IsWholeWin win
IsWhole (answer.Waits marks) = marks < 2 ^ 34
IsWhole (answer.Shape shape) = IsWholeShape shape
