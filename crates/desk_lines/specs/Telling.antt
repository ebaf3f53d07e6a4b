-- The answers to some lines, each a text without its line feed.
use Rattle.std.specs.Prelude.{◌≡◌, ℕ, ◌+◌, ◌<◌, ◌⊎◌, List, [], ◌∷◌, ◌++◌, length, take, Bool, true, false, Option, None, Some}
use Rattle.std.specs.List.{flat_map, count_by, cons_option}
use Rattle.desk_lines.specs.declared.report.DeskReport.{DeskReport}
use Rattle.desk_lines.specs.declared.line_kind.LineKind.{LineKind}
use Rattle.desk_lines.specs.declared.line_kind.LineKind.TheVariants.{NoRecord, Answered, Refused}

-- answers as they are written
abbrev pub text_by : {A : Type 0} → (A → List ℕ) → List A → List ℕ
text_by written answers = flat_map (λ answer. written answer ++ 10 ∷ []) answers

-- answers that are texts
abbrev pub text_of : List (List ℕ) → List ℕ
text_of answers = text_by (λ answer. answer) answers

-- what is written for the answer to a line
abbrev pub line_by : {A : Type 0} → (A → List ℕ) → Option A → List ℕ
line_by written None = []
line_by written (Some answer) = written answer ++ 10 ∷ []

abbrev pub with_line_feed : Option (List ℕ) → List ℕ
with_line_feed answer = line_by (λ text. text) answer

abbrev pub is_answered : LineKind → Bool
is_answered NoRecord = false
is_answered Answered = true
is_answered Refused = false

abbrev pub is_refused : LineKind → Bool
is_refused NoRecord = false
is_refused Answered = false
is_refused Refused = true

-- a line has an answer but where it is no record
abbrev pub has_answer : LineKind → Bool
has_answer NoRecord = false
has_answer Answered = true
has_answer Refused = true

-- how many lines are answered, and how many refused
abbrev pub report_of : List LineKind → DeskReport
report_of kinds = record { answered = count_by is_answered kinds; refused = count_by is_refused kinds }

-- two reports together
abbrev pub both_reports : DeskReport → DeskReport → DeskReport
both_reports one other = record { answered = one.answered + other.answered; refused = one.refused + other.refused }

-- the lines that a report counts
abbrev pub count_of : DeskReport → ℕ
count_of report = report.answered + report.refused

-- one more line is counted
abbrev pub report_with : DeskReport → LineKind → DeskReport
report_with report NoRecord = report
report_with report Answered = record { answered = report.answered + 1; refused = report.refused }
report_with report Refused = record { answered = report.answered; refused = report.refused + 1 }

-- the answers to a line: one or none
abbrev pub answers_in : {A : Type 0} → Option A → List A
answers_in answer = cons_option answer []

-- a line may have the answer of another one: where they are one line, or both are longer than any line with an answer of its own, and begin alike
abbrev pub IsToldAs : ℕ → List ℕ → List ℕ → Type 0
IsToldAs most line other = (line ≡ other) ⊎ ((most < length line) × (most < length other) × (take most line ≡ take most other))

-- The line of this number was answered so, and any that may have its answer: the answer was put behind the text that stood there.
pub record AnswersLine {T A : Type 0} (written : A → List ℕ) (most : ℕ) (tells : T → T → List (List ℕ) → List A → DeskReport → Type 0) (old new : T) (number : ℕ) (line : List ℕ) (kind : LineKind) (before after : List ℕ) : Type 0 where
  pub answer : Option A
  pub put : after ≡ before ++ line_by written answer
  pub tells_more : (first : T) (lines : List (List ℕ)) (told : List A) (report : DeskReport) (next : List ℕ) → number ≡ length lines + 1 → IsToldAs most line next → tells first old lines told report
      → tells first new (lines ++ next ∷ []) (told ++ answers_in answer) (report_with report kind)
