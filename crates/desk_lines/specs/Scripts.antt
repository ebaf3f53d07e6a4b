-- What is kept of the lines of a script that were answered.
use Rattle.std.specs.Prelude.{◌≡◌, ◌⊎◌, ℕ, List, [], ◌∷◌, ◌++◌, map, Option, None, Some, nat_eq, codes, if◌then◌else◌}
use Rattle.std.specs.List.{filter_map, starts_with}
use Rattle.desk_lines.specs.declared.line_kind.LineKind.{LineKind}
use Rattle.desk_lines.specs.declared.line_kind.LineKind.TheVariants.{NoRecord, Answered, Refused}
use Rattle.desk_lines.specs.declared.report.DeskReport.{DeskReport}
use Rattle.desk_lines.specs.Telling.{report_of}
use Rattle.desk_script.specs.declared.told.Told.{Told}
use Rattle.desk_script.specs.Texts.{told_text}
use Rattle.desk_script.specs.Asked.{asked_by, names_after, opens}
use Rattle.desk_script.specs.Replay.{ScriptState, Replays, Tells}

-- an answer that begins with `refused` is a refusal
abbrev pub text_kind : List ℕ → LineKind
text_kind answer = if starts_with nat_eq answer (codes "refused") then Refused else Answered

abbrev pub told_kind : Option (List ℕ) → LineKind
told_kind None = NoRecord
told_kind (Some answer) = text_kind answer

-- how many answers are refusals, and how many aren't
abbrev pub script_report : List (List ℕ) → DeskReport
script_report answers = report_of (map text_kind answers)

-- the script has read these lines, and they were answered with these texts, and counted
abbrev pub TellsScript : ScriptState → List (List ℕ) → List (List ℕ) → DeskReport → Type 0
TellsScript script lines answers report =
    (told : List Told) × Tells script lines told × (answers ≡ filter_map told_text told) × (report ≡ script_report answers)

-- a line opens a new table of the script
abbrev pub OpensTable : ScriptState → List ℕ → Type 0
OpensTable script line = asked_by script.names line ≡ opens script.names

-- Memory ran out before the first line, or at a line that opens a new table: the lines before it have these answers.
abbrev pub RunsOut : List (List ℕ) → List (List ℕ) → Type 0
RunsOut whole answers =
    (whole ≡ []) ⊎ ((front : List (List ℕ)) × (line : List ℕ) × (rest : List (List ℕ)) × (whole ≡ front ++ line ∷ rest)
    × Replays front answers × (asked_by (names_after front) line ≡ opens (names_after front)))
