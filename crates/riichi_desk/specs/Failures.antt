-- With which exit status the program ends.
use Rattle.std.specs.Prelude.{◌≡◌, ◌≢◌, ◌⊎◌, ◌==◌, ℕ, Bool, false, List, Result, Ok, Err, codes, if◌then◌else◌}
use Rattle.std.specs.List.{Any, before_first}
use Rattle.std.specs.Str.{bytes_eq}
use Rattle.clap.specs.Values.{kind_of}
use Rattle.clap.specs.declared.error.kind.ErrorKind.TheVariants.{DisplayHelp, DisplayVersion}
use Rattle.desk_score.specs.Faults.{desk_fault, status_of}
use Rattle.desk_cli.specs.Near.{IsNearestRule}
use Rattle.desk_cli.specs.declared.request.Form.{Form}
use Rattle.desk_cli.specs.declared.request.Form.TheVariants as forms
use Rattle.desk_lines.specs.declared.fault.DeskFault.{DeskFault}
use Rattle.desk_lines.specs.declared.fault.DeskFault.TheVariants as desk_names
use Rattle.desk_score.specs.declared.score_fault.ScoreFault.TheVariants as fault_names
use Rattle.desk_score.specs.declared.score_fault.ScoreFault.{ScoreFault}
use Rattle.riichi_desk.specs.declared.scoring.ScoreLimit.{ScoreLimit}
use Rattle.riichi_desk.specs.declared.scoring.ScoreLimit.TheVariants as limits
use Rattle.riichi_desk.specs.declared.failure.Failure.{Failure}
use Rattle.riichi_desk.specs.declared.failure.Failure.TheVariants as failures

-- the fault that a limit of a score is
abbrev pub limit_fault : ScoreLimit → ScoreFault
limit_fault (limits.Files count) = fault_names.Range
limit_fault (limits.Hands file) = fault_names.Range
limit_fault limits.Memory = fault_names.Memory

-- 0 where help or the version was asked for, 2 where the words are wrong, 3 where a file can't be opened; of a fault its own
abbrev pub HasStatus : Failure → ℕ → Type 0
HasStatus (failures.Words error) status =
    ((kind_of error ≡ DisplayHelp) ⊎ (kind_of error ≡ DisplayVersion) → status ≡ 0)
    × (kind_of error ≢ DisplayHelp → kind_of error ≢ DisplayVersion → status ≡ 2)
HasStatus failures.Text status = status ≡ 2
HasStatus (failures.UnknownRule word nearest) status = status ≡ 2
HasStatus (failures.UnknownPlace word) status = status ≡ 2
HasStatus (failures.NoNeed file name riichi why) status = status ≡ 2
HasStatus (failures.NoList file fault) status = status ≡ 2
HasStatus (failures.NoTableWords words) status = status ≡ 2
HasStatus (failures.NoTournament file trouble) status = status ≡ 2
HasStatus (failures.FewerTables session) status = status ≡ 2
HasStatus failures.OneSession status = status ≡ 2
HasStatus failures.SessionsUnsaid status = status ≡ 2
HasStatus (failures.CannotOpen file) status = status ≡ 3
HasStatus (failures.Score limit) status = status ≡ status_of (limit_fault limit)
HasStatus (failures.Fault fault) status = status ≡ status_of fault
HasStatus (failures.Explained fault) status = status ≡ status_of (desk_fault fault)

-- the text of help or of wrong words may fail to be written, and that is 3
abbrev pub IsReportedBy : Failure → ℕ → Type 0
IsReportedBy (failures.Words error) status = HasStatus (failures.Words error) status ⊎ (status ≡ 3)
IsReportedBy other status = HasStatus other status

-- a fault where lines are answered in a form
abbrev pub failure_in : Form → DeskFault → Failure
failure_in forms.Words fault = failures.Fault (desk_fault fault)
failure_in forms.Json fault = failures.Fault (desk_fault fault)
failure_in forms.Reasons fault = failures.Explained fault
failure_in forms.AllReasons fault = failures.Explained fault
failure_in forms.JsonReasons fault = failures.Explained fault

-- `-` is standard input
abbrev pub is_input : List ℕ → Bool
is_input name = bytes_eq name (codes "-")

-- A file that can't be opened is one of these, and not standard input.
abbrev pub IsOfFiles : List (List ℕ) → Failure → Type 0
IsOfFiles files (failures.CannotOpen file) = Any (λ name. name ≡ file.now) files × (is_input file.now ≡ false)
IsOfFiles files other = Unit {0}

-- a file can't be opened, or there is no memory for it
abbrev pub IsUnopened : List ℕ → Failure → Type 0
IsUnopened name (failures.CannotOpen file) = file.now ≡ name
IsUnopened name failure = failure ≡ failures.Fault fault_names.Memory

-- A word names no rule, and a near rule is told, if there is one; or there is no memory to find it.
abbrev pub IsUnknownRule : List ℕ → Failure → Type 0
IsUnknownRule text (failures.UnknownRule word nearest) = (word.now ≡ before_first (λ byte. byte == 43) text) × IsNearestRule word.now nearest
IsUnknownRule text failure = failure ≡ failures.Fault fault_names.Memory

-- a file has too many hands
abbrev pub IsOfHands : Result Bool Failure → Type 0
IsOfHands (Err (failures.Score (limits.Hands file))) = Unit {0}
IsOfHands other = ⊥

-- of the failures of a score too many hands and want of memory are told as its limits
abbrev pub IsLimited : Result Bool Failure → Result Bool Failure → Type 0
IsLimited (Err (failures.Fault fault_names.Range)) told = IsOfHands told
IsLimited (Err (failures.Fault fault_names.Memory)) told = told ≡ Err (failures.Score limits.Memory)
IsLimited outcome told = told ≡ outcome

-- the answers could not be written
abbrev pub IsUnwritten : Failure → Type 0
IsUnwritten (failures.Fault fault_names.Write) = Unit {0}
IsUnwritten (failures.Explained desk_names.Write) = Unit {0}
IsUnwritten other = ⊥

-- 0 where no line is refused, and 1 where one is; of a failure its status, or 0 where nobody reads the answers any more
abbrev pub EndsWith : Result Bool Failure → ℕ → Type 0
EndsWith (Ok is_refused) status = status ≡ (if is_refused then 1 else 0)
EndsWith (Err failure) status = IsReportedBy failure status ⊎ (IsUnwritten failure × (status ≡ 0))
