-- A line is no record, or it has a first fault, or it is a job.
use Rattle.std.specs.Prelude.{ℕ, ◌==◌, List, [], ◌∷◌, ◌++◌, length, Bool, true, ◌||◌, not, Option, None, Some, Result, Ok, Err, nat_lt, is_some, if◌then◌else◌}
use Rattle.std.specs.List.{list_any, list_all}
use Rattle.riichi_hand.specs.declared.fault.LineCode.TheVariants.{H1, H2, H3, H4, H5, H6, H7, H8}
use Rattle.riichi_hand.specs.declared.fault.LineFault.{LineFault}
use Rattle.riichi_hand.specs.declared.fault.LineFault.TheVariants.{Line}
use Rattle.riichi_hand.specs.declared.fault.TextName.TheVariants as text
use Rattle.riichi_hand.specs.Rules.{Rules}
use Rattle.riichi_hand.specs.declared.win.WinParts.{WinParts}
use Rattle.riichi_hand.specs.declared.job.Job.{Job}
use Rattle.riichi_hand.specs.declared.line.job_name.JobName.{JobName}
use Rattle.riichi_hand.specs.declared.line.job_name.JobName.TheVariants.{Win, Waits, Shape}
use Rattle.riichi_hand.specs.declared.line.key.Key.TheVariants.{On, Dora, Ura, Seen, Open}
use Rattle.riichi_hand.specs.declared.line.texts.Texts.{Texts}
use Rattle.riichi_hand.specs.Faults.{coded, first_fault, fault_or}
use Rattle.riichi_hand.specs.Hand.{hand_faults, shape_faults}
use Rattle.riichi_hand.specs.Win.{win_faults}
use Rattle.riichi_hand.specs.Words.{words_of}
use Rattle.riichi_hand.specs.Keys.{needed}
use Rattle.riichi_hand.specs.Parts.{job_in, hand_word, is_hand, LineParts, parts_of, value, is_missing}
use Rattle.riichi_hand.specs.Texts.{text_fault, melds_if_given, texts_of, only_kind}
use Rattle.riichi_hand.specs.Jobs.{win_of_line, hand_of_line, shape_of_line, job_of}

-- Every fault of a line in order. Each is a test of the whole line.

-- a byte outside 0x20 to 0x7E
abbrev pub is_other_byte : ℕ → Bool
is_other_byte byte = nat_lt byte 32 || nat_lt 126 byte

abbrev pub word_faults : List ℕ → List (Option LineFault)
word_faults line =
    coded H1 (list_any is_other_byte line)
    ∷ coded H2 (not (is_some (job_in (words_of line))))
    ∷ coded H3 (not (is_hand (hand_word (words_of line))))
    ∷ []

abbrev pub entry_faults : LineParts → List (Option LineFault)
entry_faults parts =
    coded H4 parts.entries.has_bad_word
    ∷ coded H5 parts.entries.has_doubled_key
    ∷ []

abbrev pub need_faults : LineParts → List (Option LineFault)
need_faults parts = coded H6 (list_any (is_missing parts) (needed parts.job)) ∷ []

abbrev pub text_faults : LineParts → List (Option LineFault)
text_faults parts =
    text_fault text.Hand (Some parts.hand)
    ∷ text_fault text.On (value On parts)
    ∷ text_fault text.Dora (value Dora parts)
    ∷ text_fault text.Ura (value Ura parts)
    ∷ text_fault text.Seen (value Seen parts)
    ∷ coded H7 (not (is_some (melds_if_given (value Open parts))))
    ∷ []

abbrev pub faults_of_win : Option WinParts → List (Option LineFault)
faults_of_win None = []
faults_of_win (Some win) = win_faults win

-- A win has one winning tile. Then come the faults of the record.
abbrev pub job_faults : Rules → LineParts → Texts → JobName → List (Option LineFault)
job_faults rules parts texts Win =
    coded H8 (not (is_some (only_kind texts.on))) ∷ faults_of_win (win_of_line rules parts texts)
job_faults rules parts texts Waits = hand_faults (hand_of_line texts)
job_faults rules parts texts Shape = shape_faults (shape_of_line texts)

abbrev pub faults_of : Rules → List ℕ → LineParts → List (Option LineFault)
faults_of rules line parts =
    word_faults line ++ (entry_faults parts ++ (need_faults parts ++ (text_faults parts
    ++ job_faults rules parts (texts_of parts) parts.job)))

-- a comment, spaces alone, or nothing
abbrev pub is_no_record : List ℕ → Bool
is_no_record [] = true
is_no_record (byte ∷ bytes) = (byte == 35) || list_all (λ b. b == 32) (byte ∷ bytes)

-- The outcome of a line: over 4096 bytes is a fault, whatever it holds; else it is no record, or its first fault, or its
-- job, which a line without faults has.
unfoldable pub outcome_of : Rules → List ℕ → Result (Option Job) LineFault
outcome_of rules line =
    let parts = parts_of (words_of line) in
    if nat_lt 4096 (length line) then Err (Line H1)
    else (if is_no_record line then Ok None
    else fault_or (first_fault (faults_of rules line parts)) (job_of rules parts (texts_of parts) parts.job))

-- a word after the hand is no entry of the line's job
abbrev pub has_bad_word : List ℕ → Bool
has_bad_word line = (parts_of (words_of line)).entries.has_bad_word
