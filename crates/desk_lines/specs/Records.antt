-- What is kept of the record lines that were answered.
use Rattle.std.specs.Prelude.{◌≡◌, ℕ, List, [], ◌∷◌, ◌++◌, Bool, false, Option, None, Some, is_some}
use Rattle.riichi_hand.specs.Rules.{Rules}
use Rattle.desk_lines.specs.declared.line_kind.LineKind.{LineKind}
use Rattle.desk_lines.specs.declared.line_kind.LineKind.TheVariants.{NoRecord}
use Rattle.desk_lines.specs.declared.records.Records.{Records}
use Rattle.desk_lines.specs.declared.report.DeskReport.{DeskReport}
use Rattle.desk_lines.specs.LineAnswer.{line_kind}
use Rattle.desk_lines.specs.LineAnswers.{report_on}
use Rattle.desk_lines.specs.Profile.{profile_of, rules_of, record_lines, record_rules}
use Rattle.desk_lines.specs.Slips.{slip_in}
use Rattle.desk_lines.specs.Telling.{answers_in, has_answer, with_line_feed}

-- the profile once these lines were read, and none before the first
abbrev pub rules_after : Rules → List (List ℕ) → Option Rules
rules_after given [] = None
rules_after given (line ∷ lines) = Some (rules_of given (line ∷ lines))

-- the profile once these lines were read too
abbrev pub next_profile : Rules → Option Rules → List (List ℕ) → Option Rules
next_profile given None lines = rules_after given lines
next_profile given (Some rules) lines = Some rules

-- those of the next lines that can be records
abbrev pub records_in : Option Rules → List (List ℕ) → List (List ℕ)
records_in None lines = record_lines lines
records_in (Some rules) lines = lines

-- the first of the next lines sets the profile
abbrev pub sets_profile : Option Rules → List (List ℕ) → Bool
sets_profile None [] = false
sets_profile None (line ∷ lines) = is_some (profile_of line)
sets_profile (Some rules) lines = false

-- What a kind of answer is: which texts may answer a record line under a profile, or none.
abbrev pub AnswerKind : Type 1
AnswerKind = Rules → List ℕ → Option (List ℕ) → Type 0

-- One of the texts that may answer a line of this kind was put behind what stood there, or none was.
pub record Puts (May : Option (List ℕ) → Type 0) (kind : LineKind) (before after : List ℕ) : Type 0 where
  pub told : Option (List ℕ)
  pub may_be_told : May told
  pub kind_is : is_some told ≡ has_answer kind
  pub put : after ≡ before ++ with_line_feed told

-- the answer to a line that is a record under these rules, or none
abbrev pub IsToldUnder : AnswerKind → Option Rules → List ℕ → Option (List ℕ) → Type 0
IsToldUnder Answers None line told = told ≡ None
IsToldUnder Answers (Some rules) line told = Answers rules line told

-- the answer to one more line
abbrev pub IsToldBy : AnswerKind → Rules → Option Rules → List ℕ → Option (List ℕ) → Type 0
IsToldBy Answers given rules line told = IsToldUnder Answers (record_rules given rules line) line told

-- what a line is that is a record under these rules, or none
abbrev pub kind_under : Option Rules → List ℕ → LineKind
kind_under None line = NoRecord
kind_under (Some rules) line = line_kind rules line

-- these texts answer the lines, in order
abbrev pub AreTold : AnswerKind → Rules → List (List ℕ) → List (List ℕ) → Type 0
AreTold Answers rules [] told = told ≡ []
AreTold Answers rules (line ∷ lines) told =
    (answer : Option (List ℕ)) × (others : List (List ℕ)) × Answers rules line answer
    × (told ≡ answers_in answer ++ others) × AreTold Answers rules lines others

-- these texts answer the records among the lines of a stream, under its profile
abbrev pub AnswerRecords : AnswerKind → Rules → List (List ℕ) → List (List ℕ) → Type 0
AnswerRecords Answers given lines told = AreTold Answers (rules_of given lines) (record_lines lines) told

-- the lines were read, and counted, and the first that looks like a profile line and sets none was noted
abbrev pub AreRead : {A : Type 0} → Records A → List (List ℕ) → DeskReport → Type 0
AreRead records lines report = (records.rules ≡ rules_after records.given lines) × (report ≡ report_on records.given lines) × (records.slip ≡ slip_in lines)
