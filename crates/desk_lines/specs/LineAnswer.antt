-- The answer to one line.
use Rattle.std.specs.Prelude.{◌≡◌, ℕ, List, Option, None, Some, Result, Ok, Err}
use Rattle.riichi_hand.specs.Rules.{Rules}
use Rattle.riichi_hand.specs.declared.fault.LineFault.{LineFault}
use Rattle.riichi_hand.specs.declared.job.Job.{Job}
use Rattle.riichi_hand.specs.FaultTexts.{fault_text}
use Rattle.riichi_hand.specs.Lines.{outcome_of}
use Rattle.desk_core.specs.declared.answer.Answer.{Answer}
use Rattle.desk_core.specs.AnswerText.{answer_text}
use Rattle.desk_core.specs.Value.{value_of}
use Rattle.desk_lines.specs.declared.line_kind.LineKind.{LineKind}
use Rattle.desk_lines.specs.declared.line_kind.LineKind.TheVariants.{NoRecord, Answered, Refused}

-- A line that is no record has no answer; a job is answered by its value, and a refused line by its fault: by these texts of an answer and of a fault.
abbrev pub outcome_told : (Answer → List ℕ) → (LineFault → List ℕ) → Result (Option Job) LineFault → Option (List ℕ)
outcome_told text_of told (Ok None) = None
outcome_told text_of told (Ok (Some job)) = Some (text_of (value_of job))
outcome_told text_of told (Err fault) = Some (told fault)

abbrev pub outcome_text : Result (Option Job) LineFault → Option (List ℕ)
outcome_text outcome = outcome_told answer_text fault_text outcome

unfoldable pub answer_of : Rules → List ℕ → Option (List ℕ)
answer_of rules line = outcome_text (outcome_of rules line)

-- what a line is: no record, a job that is answered, or refused
abbrev pub outcome_kind : Result (Option Job) LineFault → LineKind
outcome_kind (Ok None) = NoRecord
outcome_kind (Ok (Some job)) = Answered
outcome_kind (Err fault) = Refused

abbrev pub line_kind : Rules → List ℕ → LineKind
line_kind rules line = outcome_kind (outcome_of rules line)

-- a line is answered as a function says
abbrev pub IsBy : (Rules → List ℕ → Option (List ℕ)) → Rules → List ℕ → Option (List ℕ) → Type 0
IsBy answer rules line told = told ≡ answer rules line
