-- The plain answers of a text, behind the numbers of their lines or without these.
use Rattle.std.specs.Prelude.{ℕ, suc, List, [], ◌∷◌, ◌++◌, Bool, if◌then◌else◌}
use Rattle.riichi_hand.specs.Rules.{Rules}
use Rattle.desk_lines.specs.LineAnswer.{answer_of}
use Rattle.desk_lines.specs.LineAnswers.{answers_to}
use Rattle.desk_lines.specs.Numbered.{with_number, words_front}
use Rattle.desk_lines.specs.Profile.{first_number, rules_of, record_lines}
use Rattle.desk_lines.specs.Telling.{answers_in, text_by}

-- the answers to lines, each with the number of its line; the first line has this one
abbrev pub numbered_from : Rules → ℕ → List (List ℕ) → List (ℕ × List ℕ)
numbered_from rules number [] = []
numbered_from rules number (line ∷ lines) = answers_in (with_number number (answer_of rules line)) ++ numbered_from rules (suc number) lines

-- the answers to the records among the lines of a stream, under its profile
abbrev pub numbered_on : Rules → List (List ℕ) → List (ℕ × List ℕ)
numbered_on given lines = numbered_from (rules_of given lines) (first_number lines) (record_lines lines)

-- the answers as they are written
abbrev pub answers_shown : Bool → Rules → List (List ℕ) → List ℕ
answers_shown is_numbered given lines =
    if is_numbered then text_by (λ told. words_front told.0 ++ told.1) (numbered_on given lines) else answers_to given lines
