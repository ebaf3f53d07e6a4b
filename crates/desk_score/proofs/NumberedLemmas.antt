-- The answers of a text, behind the numbers of their lines.
use Rattle.std.proofs.Common.{◌≡◌, ℕ, suc, List, [], ◌∷◌, ◌++◌, true, Option, ◌∙◌, ap}
use Rattle.riichi_hand.specs.Rules.{Rules}
use Rattle.desk_lines.specs.LineAnswer.{IsBy, answer_of}
use Rattle.desk_lines.specs.Numbered.{AreNumbered, NumberRecords, with_number, words_front}
use Rattle.desk_lines.specs.Profile.{first_number, rules_of, record_lines}
use Rattle.desk_lines.specs.Telling.{text_by, answers_in}
use Rattle.desk_score.specs.Shown.{numbered_from, answers_shown}

-- an answer behind its number
abbrev with_front : ℕ × List ℕ → List ℕ
with_front told = words_front told.0 ++ told.1

numbered_only : (rules : Rules) (number : ℕ) (lines : List (List ℕ)) (told : List (ℕ × List ℕ)) → AreNumbered (IsBy answer_of) rules number lines told → told ≡ numbered_from rules number lines
numbered_only rules number [] told are = are
numbered_only rules number (line ∷ lines) told are =
    are.3 ∙ ap (λ (answer : Option (List ℕ)). answers_in (with_number number answer) ++ are.1) are.2
    ∙ ap (λ others. answers_in (with_number number (answer_of rules line)) ++ others) (numbered_only rules (suc number) lines are.1 are.4)

-- they are these
pub numbers_shown : (given : Rules) (lines : List (List ℕ)) (told : List (ℕ × List ℕ)) → NumberRecords (IsBy answer_of) given lines told → text_by with_front told ≡ answers_shown true given lines
numbers_shown given lines told are = ap (text_by with_front) (numbered_only (rules_of given lines) (first_number lines) (record_lines lines) told are)
