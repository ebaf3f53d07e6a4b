-- What a win is worth, by its readings in the order of what they are worth.
use Rattle.std.specs.Prelude.{Option, Some, None, List, [], ◌∷◌}
use Rattle.riichi_score.specs.declared.score.Score.{Score}
use Rattle.riichi_score.specs.declared.answer.WinAnswer.{WinAnswer}
use Rattle.riichi_score.specs.declared.answer.WinAnswer.TheVariants.{Won, NoYaku, NoWin}
use Rattle.riichi_explain.specs.declared.ranked.RankedReading.{RankedReading}

abbrev pub answer_if : Option Score → WinAnswer
answer_if None = NoYaku
answer_if (Some score) = Won score

-- what the first is worth; no win where there is none
abbrev pub ranked_answer : List RankedReading → WinAnswer
ranked_answer [] = NoWin
ranked_answer (one ∷ others) = answer_if one.score
