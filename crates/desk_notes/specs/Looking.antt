-- What is seen of a text of record lines that is looked through.
use Rattle.std.specs.Prelude.{◌≡◌, ℕ, List, [], ◌∷◌, ◌++◌, map, Option, None, Some, Ok}
use Rattle.riichi_hand.specs.Rules.{Rules}
use Rattle.riichi_hand.specs.Lines.{outcome_of}
use Rattle.desk_lines.specs.Profile.{rules_of, rules_by, record_rules}
use Rattle.desk_lines.specs.LineAnswer.{outcome_kind}
use Rattle.desk_lines.specs.LineAnswers.{report_on}
use Rattle.desk_lines.specs.Records.{rules_after}
use Rattle.desk_lines.specs.declared.line_kind.LineKind.{LineKind}
use Rattle.desk_lines.specs.declared.report.DeskReport.{DeskReport}
use Rattle.desk_notes.specs.declared.looking.Looking.{Looking}
use Rattle.desk_notes.specs.Winners.{LineOutcome, is_paid_again, last_win_by, last_win, put_if, paid_again_from}

-- ---- the lines of a text

-- what a line comes to under these rules, or none where it sets those of its text, and is no record
abbrev pub outcome_under : Option Rules → List ℕ → LineOutcome
outcome_under None line = Ok None
outcome_under (Some rules) line = outcome_of rules line

-- what each line of a text comes to, under its rules
abbrev pub outcomes_on : Rules → List (List ℕ) → List LineOutcome
outcomes_on given [] = []
outcomes_on given (line ∷ lines) = outcome_under (record_rules given None line) line ∷ map (outcome_of (rules_of given (line ∷ lines))) lines

-- The numbers of the lines of a text that are wins and paid what the win before them was paid
abbrev pub paid_again : Rules → List (List ℕ) → List ℕ
paid_again given lines = paid_again_from None 1 (outcomes_on given lines)

-- ---- what was seen

-- what the next line comes to
abbrev pub next_outcome : Looking → List ℕ → LineOutcome
next_outcome old line = outcome_under (record_rules old.given old.rules line) line

-- One more line was taken.
pub record Takes (old new : Looking) (number : ℕ) (line : List ℕ) (kind : LineKind) : Type 0 where
  pub given_is : new.given ≡ old.given
  pub rules_is : new.rules ≡ Some (rules_by old.given old.rules line)
  pub before_is : new.before ≡ last_win_by old.before (next_outcome old line)
  pub found_is : new.paid_again.items ≡ old.paid_again.items ++ put_if (is_paid_again old.before (next_outcome old line)) number []
  pub kind_is : kind ≡ outcome_kind (next_outcome old line)

-- These are all lines so far.
pub record HasSeen (first now : Looking) (lines : List (List ℕ)) (report : DeskReport) : Type 0 where
  pub given_is : now.given ≡ first.given
  pub rules_is : now.rules ≡ rules_after now.given lines
  pub before_is : now.before ≡ last_win None (outcomes_on now.given lines)
  pub found_is : now.paid_again.items ≡ paid_again now.given lines
  pub counts_are : report ≡ report_on now.given lines
