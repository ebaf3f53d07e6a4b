-- The best score of a win with the reading that has it.
use Rattle.std.specs.Prelude.{◌≡◌, Some}
use Rattle.riichi_hand.specs.declared.win.WinParts.{WinParts}
use Rattle.riichi_split.specs.declared.reading.Reading.{Reading}
use Rattle.riichi_score.specs.declared.answer.WinAnswer.{WinAnswer}
use Rattle.riichi_score.specs.declared.answer.WinAnswer.TheVariants as answer
use Rattle.riichi_score.specs.declared.leading.Leading.{Leading}
use Rattle.riichi_score.specs.declared.leading.Leading.TheVariants as leading
use Rattle.riichi_score.specs.declared.read.BestReading.{BestReading}
use Rattle.riichi_score.specs.declared.read.BestReading.TheVariants.{Won, NoYaku, NoWin}
use Rattle.riichi_score.specs.Scores.{score_of, IsReadingOf}
use Rattle.riichi_score.specs.Worths.{score_with}

-- the answer without the reading
abbrev pub answer_without_reading : BestReading → WinAnswer
answer_without_reading (Won reading score) = answer.Won score
answer_without_reading NoYaku = answer.NoYaku
answer_without_reading NoWin = answer.NoWin

-- the reading is one of the hand's, and the score is that of this reading
abbrev pub HasItsScore : WinParts → BestReading → Type 0
HasItsScore win (Won reading score) = IsReadingOf win reading × (score_of reading win ≡ Some score)
HasItsScore win NoYaku = Unit {0}
HasItsScore win NoWin = Unit {0}

-- the same of the best so far. No public clause cites this.
abbrev pub IsScored : WinParts → Reading → Leading → Type 0
IsScored win reading (leading.Won worth) = IsReadingOf win reading × (score_of reading win ≡ Some (score_with worth win))
IsScored win reading leading.NoYaku = Unit {0}
IsScored win reading leading.NoWin = Unit {0}
