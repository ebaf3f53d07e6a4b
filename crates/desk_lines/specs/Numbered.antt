-- Answers with the numbers of their lines.
use Rattle.std.specs.Prelude.{◌≡◌, ℕ, suc, List, [], ◌∷◌, ◌++◌, Option, codes, decimal, option_map}
use Rattle.riichi_hand.specs.Rules.{Rules}
use Rattle.desk_lines.specs.Profile.{first_number, rules_of, record_lines}
use Rattle.desk_lines.specs.Records.{AnswerKind}
use Rattle.desk_lines.specs.Telling.{answers_in}

-- an answer with the number of its line
abbrev pub with_number : ℕ → Option (List ℕ) → Option (ℕ × List ℕ)
with_number number answer = option_map (λ text. (number, text)) answer

-- these texts answer the lines, in order, each with the number of its line; the first line has this one
abbrev pub AreNumbered : AnswerKind → Rules → ℕ → List (List ℕ) → List (ℕ × List ℕ) → Type 0
AreNumbered Answers rules number [] told = told ≡ []
AreNumbered Answers rules number (line ∷ lines) told =
    (answer : Option (List ℕ)) × (others : List (ℕ × List ℕ)) × Answers rules line answer
    × (told ≡ answers_in (with_number number answer) ++ others) × AreNumbered Answers rules (suc number) lines others

-- these texts answer the records among the lines of a stream, under its profile, each with the number of its line
abbrev pub NumberRecords : AnswerKind → Rules → List (List ℕ) → List (ℕ × List ℕ) → Type 0
NumberRecords Answers given lines told = AreNumbered Answers (rules_of given lines) (first_number lines) (record_lines lines) told

-- ---- what stands before an answer

-- in words the number and a colon
abbrev pub words_front : ℕ → List ℕ
words_front number = decimal number ++ codes ":"

-- of an object the brace, and the number as its first member
abbrev pub object_front : ℕ → List ℕ
object_front number = codes "{\"line\":" ++ (decimal number ++ codes ",")
