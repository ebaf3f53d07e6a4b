-- The answers to the lines of a stream, as texts and as a count.
use Rattle.std.specs.Prelude.{ℕ, List, map, Option}
use Rattle.std.specs.List.{filter_map}
use Rattle.riichi_hand.specs.Rules.{Rules}
use Rattle.desk_lines.specs.declared.report.DeskReport.{DeskReport}
use Rattle.desk_lines.specs.Lines.{lines}
use Rattle.desk_lines.specs.Profile.{rules_of, record_lines}
use Rattle.desk_lines.specs.LineAnswer.{answer_of, line_kind}
use Rattle.desk_lines.specs.Telling.{text_of, report_of}

-- the answers of a kind to the records among the lines of a stream, under its profile, which is the given one where it sets none
abbrev pub answers_by : (Rules → List ℕ → Option (List ℕ)) → Rules → List (List ℕ) → List (List ℕ)
answers_by answer given lines = filter_map (answer (rules_of given lines)) (record_lines lines)

-- the plain answers
abbrev pub answers_on : Rules → List (List ℕ) → List (List ℕ)
answers_on given lines = answers_by answer_of given lines

-- the same as they are written, each with a line feed
abbrev pub answers_to : Rules → List (List ℕ) → List ℕ
answers_to given lines = text_of (answers_on given lines)

-- the answers to a text
abbrev pub answers : Rules → List ℕ → List ℕ
answers given text = answers_to given (lines text)

-- how many of the records are answered, and how many refused
abbrev pub report_on : Rules → List (List ℕ) → DeskReport
report_on given lines = report_of (map (line_kind (rules_of given lines)) (record_lines lines))
