-- What the lines of a text of questions are answered.
use Rattle.std.specs.Prelude.{ℕ, ◌==◌, ◌+◌, ◌≤◌, ◌&&◌, List, [], ◌∷◌, ◌++◌, Bool, true, false, Option, None, Some, Result, Ok, Err, codes, decimal, drop, length, is_some, if◌then◌else◌, map}
use Rattle.std.specs.List.{filter_map}
use Rattle.riichi_hand.specs.FaultTexts.{fault_text}
use Rattle.riichi_hand.specs.declared.fault.LineFault.{LineFault}
use Rattle.riichi_study.specs.Findings.{Finding, finding_of}
use Rattle.riichi_study.specs.Lines.{study_of}
use Rattle.riichi_study.specs.Reasons.{finding_reasons, prospect_reason}
use Rattle.riichi_study.specs.Texts.{finding_text, prospect_text}
use Rattle.riichi_study.specs.declared.prospect.Prospect.{Prospect}
use Rattle.riichi_study.specs.declared.study.Study.{Study}
use Rattle.desk_lines.specs.Profile.{profile_of}
use Rattle.desk_lines.specs.Telling.{answers_in}
use Rattle.desk_lines.specs.declared.line_kind.LineKind.{LineKind}
use Rattle.desk_lines.specs.declared.line_kind.LineKind.TheVariants.{NoRecord, Answered, Refused}
use Rattle.desk_lines.specs.declared.outbox.Outbox.{Outbox}
use Rattle.desk_json.specs.Parts.{code_json, comma_if, listed}
use Rattle.desk_study.specs.declared.form.StudiesForm.{StudiesForm}
use Rattle.desk_study.specs.declared.form.StudiesForm.TheVariants.{Answers, Explained, Objects}
use Rattle.desk_study.specs.declared.form.StudiesManner.{StudiesManner}
use Rattle.desk_study.specs.Objects.{finding_members}

-- ---- the text of one answer

-- the number of a line, where answers are numbered
abbrev pub number_asked : Bool → ℕ → Option ℕ
number_asked false number = None
number_asked true number = Some number

-- the number and a colon
abbrev pub line_front : Option ℕ → List ℕ
line_front None = []
line_front (Some number) = decimal number ++ codes ":"

-- the brace of an object, and the number as its first member
abbrev pub brace_and_number : Option ℕ → List ℕ
brace_and_number None = codes "{"
brace_and_number (Some number) = codes "{\"line\":" ++ decimal number ++ codes ","

abbrev pub form_front : StudiesForm → Option ℕ → List ℕ
form_front Answers number = line_front number
form_front Explained number = line_front number
form_front Objects number = brace_and_number number

-- what is found, as a line, as a line with lines in words below it, or as the members of an object
abbrev pub told_in : StudiesForm → Finding → List ℕ
told_in Answers finding = finding_text finding
told_in Explained finding = finding_text finding ++ finding_reasons finding
told_in Objects finding = finding_members finding

-- a fault; of an object what stands behind its brace
abbrev pub fault_told : StudiesForm → LineFault → List ℕ
fault_told Answers fault = fault_text fault
fault_told Explained fault = fault_text fault
fault_told Objects fault = drop 1 (code_json fault) ++ codes "}"

-- a question is answered, a line that is refused has its fault, and a line that asks nothing no answer
abbrev pub studied : StudiesForm → Option ℕ → Result (Option Study) LineFault → Option (List ℕ)
studied form number (Ok None) = None
studied form number (Ok (Some study)) = Some (form_front form number ++ told_in form (finding_of study))
studied form number (Err fault) = Some (form_front form number ++ fault_told form fault)

abbrev pub studied_kind : Result (Option Study) LineFault → LineKind
studied_kind (Ok None) = NoRecord
studied_kind (Ok (Some study)) = Answered
studied_kind (Err fault) = Refused

-- the first line of all may set a rule profile, which says nothing here
abbrev pub names_rules : ℕ → List ℕ → Bool
names_rules number line = (number == 1) && is_some (profile_of line)

-- the answer to the line of a number
unfoldable pub question_answer : StudiesManner → ℕ → List ℕ → Option (List ℕ)
question_answer manner number line =
    if names_rules number line then None else studied manner.form (number_asked manner.is_numbered number) (study_of line)

unfoldable pub question_kind : ℕ → List ℕ → LineKind
question_kind number line = if names_rules number line then NoRecord else studied_kind (study_of line)

-- ---- the answers to lines, of which the first has this number

abbrev pub question_answers : StudiesManner → ℕ → List (List ℕ) → List (List ℕ)
question_answers manner number [] = []
question_answers manner number (line ∷ lines) = answers_in (question_answer manner number line) ++ question_answers manner (number + 1) lines

abbrev pub question_kinds : ℕ → List (List ℕ) → List LineKind
question_kinds number [] = []
question_kinds number (line ∷ lines) = question_kind number line ∷ question_kinds (number + 1) lines

-- ---- as they are put

-- so many bytes fit, and one answer behind them
abbrev pub HasRoomFor : ℕ → Outbox → Type 0
HasRoomFor bytes outbox = length outbox.bytes.items + bytes + 3073 ≤ 65536

-- of places that may be empty
abbrev pub kept_text : Option Prospect → List ℕ
kept_text None = []
kept_text (Some prospect) = prospect_text prospect

abbrev pub kept_reason : Option Prospect → List ℕ
kept_reason None = []
kept_reason (Some prospect) = prospect_reason prospect

-- what there is at places
abbrev pub all_there : {X : Type 0} → List (Option X) → List X
all_there places = filter_map (λ place. place) places

-- its texts, with commas between them
abbrev pub listed_there : {X : Type 0} → (X → List ℕ) → List (Option X) → List ℕ
listed_there text places = listed (map text (all_there places))

-- of a place, behind a comma where something stands before it
abbrev pub listed_next : {X : Type 0} → (X → List ℕ) → Bool → Option X → List ℕ
listed_next text later None = []
listed_next text later (Some x) = comma_if later ++ text x

abbrev pub something_there : {X : Type 0} → Option X → Bool
something_there place = is_some place
