-- The explanation of a win.
use Rattle.std.specs.Prelude.{◌≡◌, ◌+◌, ◌*◌, Bool, Option, Some, None, List, [], length, if◌then◌else◌}
use Rattle.riichi_hand.specs.declared.win.WinParts.{WinParts}
use Rattle.riichi_split.specs.declared.reading.Reading.{Reading}
use Rattle.riichi_yaku.specs.YakuSets.{is_yakuman}
use Rattle.riichi_score.specs.declared.answer.WinAnswer.{WinAnswer}
use Rattle.riichi_score.specs.declared.answer.WinAnswer.TheVariants as answer
use Rattle.riichi_score.specs.Scores.{score_of, completed_hand, IsReadingOf}
use Rattle.riichi_explain.specs.declared.dora.DoraRow.{DoraRow}
use Rattle.riichi_explain.specs.declared.fu.FuRow.{FuRow}
use Rattle.riichi_explain.specs.declared.win.WonHand.{WonHand}
use Rattle.riichi_explain.specs.declared.ranked.RankedReading.{RankedReading}
use Rattle.riichi_explain.specs.Ranked.{AreRanked}
use Rattle.riichi_explain.specs.declared.win.WinExplanation.{WinExplanation}
use Rattle.riichi_explain.specs.declared.win.WinExplanation.TheVariants.{Won, NoYaku, NoWin}
use Rattle.riichi_explain.specs.Base.{base_rule, points_by}
use Rattle.riichi_explain.specs.Waits.{kind_waits}
use Rattle.riichi_explain.specs.declared.missed.MissedWin.{MissedWin}
use Rattle.riichi_explain.specs.Forms.{AreFormDistances}
use Rattle.riichi_explain.specs.Dora.{dora_rows, dora_total}
use Rattle.riichi_explain.specs.Fu.{fu_rows, fu_from_rows}
use Rattle.riichi_explain.specs.Han.{han_rows, han_total}
use Rattle.riichi_score.specs.Limits.{limits_of, waiting_hand}
use Rattle.riichi_explain.specs.Payers.{pay_rows, pay_total}

-- the fu that count: of a yakuman none
abbrev pub counted_fu : Bool → Reading → WinParts → List FuRow
counted_fu yakuman reading win = if yakuman then [] else fu_rows reading win

-- the dora that count: of a yakuman none
abbrev pub counted_dora : Bool → WinParts → List DoraRow
counted_dora yakuman win = if yakuman then [] else dora_rows win

-- Why a win is worth what it is: a reading of the hand that has the score, and the rows of it, which add up.
pub record IsWonHand (win : WinParts) (hand : WonHand) : Type 0 where
  pub of_win : hand.win ≡ win
  pub is_reading : IsReadingOf win hand.reading
  pub has_score : score_of hand.reading win ≡ Some hand.score
  pub han_are : hand.han.items ≡ han_rows hand.score.yaku win
  pub dora_are : hand.dora.items ≡ counted_dora (is_yakuman hand.score.yaku) win
  pub fu_are : hand.fu.items ≡ counted_fu (is_yakuman hand.score.yaku) hand.reading win
  pub base_is : hand.base ≡ base_rule (is_yakuman hand.score.yaku) (limits_of hand.reading win hand.score.yaku) win.rules hand.score.han hand.score.fu
  pub payers_are : hand.payers.items ≡ pay_rows hand.score.base win
  pub han_add_up : han_total hand.han.items ≡ hand.score.han
  pub dora_adds_up : dora_total hand.dora.items ≡ hand.score.dora
  pub fu_add_up : fu_from_rows hand.reading hand.fu.items ≡ hand.score.fu
  pub base_adds_up : points_by hand.base ≡ hand.score.base
  pub payers_add_up : pay_total hand.payers.items + 1000 * win.sticks ≡ hand.score.gain

-- the readings of a hand, none of which has a yaku
pub record HaveNoYaku (win : WinParts) (ranked : List RankedReading) : Type 0 where
  pub are_all : AreRanked win ranked
  pub none_scores : (reading : Reading) → IsReadingOf win reading → score_of reading win ≡ None

-- a hand without a reading: how far it is from each form, and the kinds that it waits for before the winning tile
pub record IsNoWin (win : WinParts) (missed : MissedWin) : Type 0 where
  pub none : (reading : Reading) → IsReadingOf win reading → ⊥
  pub distances : AreFormDistances (completed_hand win) win.melds missed.forms
  pub waits_are : missed.waits.items ≡ kind_waits (waiting_hand win)

abbrev pub Explains : WinParts → WinExplanation → Type 0
Explains win (Won hand) = IsWonHand win hand
Explains win (NoYaku ranked) = HaveNoYaku win ranked.items
Explains win (NoWin missed) = IsNoWin win missed

-- the answer that is explained
abbrev pub explained_answer : WinExplanation → WinAnswer
explained_answer (Won hand) = answer.Won hand.score
explained_answer (NoYaku ranked) = answer.NoYaku
explained_answer (NoWin missed) = answer.NoWin

-- the reading that scores
abbrev pub explained_reading : WinExplanation → Option Reading
explained_reading (Won hand) = Some hand.reading
explained_reading (NoYaku ranked) = None
explained_reading (NoWin missed) = None
