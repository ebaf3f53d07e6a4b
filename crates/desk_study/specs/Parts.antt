-- The answers to one part of a text of questions.
use Rattle.std.specs.Prelude.{◌≡◌, ℕ, List}
use Rattle.desk_lines.specs.Telling.{report_of, text_of}
use Rattle.desk_study.specs.Answers.{question_answers, question_kinds}
use Rattle.desk_study.specs.declared.form.StudiesManner.{StudiesManner}
use Rattle.desk_study.specs.declared.part.Part.{Part}

-- it has the answers to these lines, counted so; the first line has this number
pub record IsAnswered (manner : StudiesManner) (number : ℕ) (lines : List (List ℕ)) (part : Part) : Type 0 where
  pub answers_are : part.answers.items ≡ text_of (question_answers manner number lines)
  pub report_is : part.report ≡ report_of (question_kinds number lines)
