-- What the lines of a script ask, and the names of the tables that they open.
use Rattle.std.specs.Prelude.{ℕ, List, [], ◌∷◌, ◌++◌, length, position, Option, None, Some, Result, Ok, Err, nat_lt, if◌then◌else◌}
use Rattle.std.specs.List.{filter_map}
use Rattle.std.specs.Str.{bytes_eq}
use Rattle.riichi_hand.specs.Rules.{first_profile}
use Rattle.riichi_hand.specs.declared.fault.LineFault.{LineFault}
use Rattle.riichi_hand.specs.declared.job.Job.{Job}
use Rattle.riichi_hand.specs.Lines.{outcome_of}
use Rattle.desk_core.specs.Ticketed.{Ticketed}
use Rattle.desk_core.specs.declared.event.Event.{Event}
use Rattle.desk_core.specs.declared.event.Event.TheVariants as event
use Rattle.desk_script.specs.declared.action.Action.{Action}
use Rattle.desk_script.specs.declared.action.Action.TheVariants.{Open, Submit, Arrive, Close, Take, Withdraw}
use Rattle.desk_script.specs.declared.refusal.Refusal.{Refusal}
use Rattle.desk_script.specs.declared.refusal.Refusal.TheVariants.{NoCommand, NotOpen, OpenAlready, AllOpen, Record}
use Rattle.desk_script.specs.declared.told.Told.TheVariants as tell
use Rattle.desk_script.specs.declared.line_request.LineRequest.{LineRequest}
use Rattle.desk_script.specs.declared.line_request.LineRequest.TheVariants as ask
use Rattle.desk_script.specs.Words.{is_blank}
use Rattle.desk_script.specs.Commands.{Said, command_of}

abbrev pub refused : Refusal → LineRequest
refused refusal = ask.Told (tell.Refused refusal)

-- a record that can't be read is answered by its fault; one that is no record is none
abbrev pub with_record : Result (Option Job) LineFault → (Job → Event) → LineRequest
with_record (Ok (Some job)) event_of = ask.Event (event_of job)
with_record (Ok None) event_of = refused NoCommand
with_record (Err fault) event_of = refused (Record fault)

-- a piece of a ticket
abbrev pub piece_of : ℕ → ℕ → Job → Ticketed
piece_of table seq job = record { ticket = record { table = table; seq = seq }; job = job }

-- what a command asks of a table that is open
abbrev pub asked_at : ℕ → Action → List ℕ → LineRequest
asked_at table Open job_line = refused OpenAlready
asked_at table Submit job_line = with_record (outcome_of first_profile job_line) (λ job. event.Submit table job)
asked_at table (Arrive seq) job_line = with_record (outcome_of first_profile job_line) (λ job. event.Arrive (piece_of table seq job))
asked_at table Close job_line = ask.Event (event.Close table)
asked_at table Take job_line = ask.Event (event.Take table)
asked_at table (Withdraw seq) job_line = ask.Event (event.Withdraw (record { table = table; seq = seq }))

-- a new table has the number of tables before it; 64 may be open
abbrev pub asked_anew : List (List ℕ) → Action → LineRequest
asked_anew names Open = if nat_lt (length names) 64 then ask.Told (tell.Table (length names)) else refused AllOpen
asked_anew names Submit = refused NotOpen
asked_anew names (Arrive seq) = refused NotOpen
asked_anew names Close = refused NotOpen
asked_anew names Take = refused NotOpen
asked_anew names (Withdraw seq) = refused NotOpen

-- what a command asks, by the number of its table
abbrev pub asked_for : List (List ℕ) → Said → Option ℕ → LineRequest
asked_for names said (Some table) = asked_at table said.action said.job_line
asked_for names said None = asked_anew names said.action

abbrev pub asked_of_command : List (List ℕ) → Option Said → LineRequest
asked_of_command names None = refused NoCommand
asked_of_command names (Some said) = asked_for names said (position (bytes_eq said.name) names)

-- the names once a command was read
abbrev pub names_anew : List (List ℕ) → Said → Action → List (List ℕ)
names_anew names said Open = if nat_lt (length names) 64 then names ++ said.name ∷ [] else names
names_anew names said Submit = names
names_anew names said (Arrive seq) = names
names_anew names said Close = names
names_anew names said Take = names
names_anew names said (Withdraw seq) = names

abbrev pub names_for : List (List ℕ) → Said → Option ℕ → List (List ℕ)
names_for names said (Some table) = names
names_for names said None = names_anew names said said.action

abbrev pub names_of_command : List (List ℕ) → Option Said → List (List ℕ)
names_of_command names None = names
names_of_command names (Some said) = names_for names said (position (bytes_eq said.name) names)

-- what a line asks, after the names of the open tables
unfoldable pub asked_by : List (List ℕ) → List ℕ → LineRequest
asked_by names line =
    if nat_lt 8192 (length line) then refused NoCommand
    else if is_blank line then ask.Told tell.Nothing
    else asked_of_command names (command_of line)

-- the names once a line was read
unfoldable pub names_by : List (List ℕ) → List ℕ → List (List ℕ)
names_by names line =
    if nat_lt 8192 (length line) then names
    else if is_blank line then names
    else names_of_command names (command_of line)

-- a new table is opened
abbrev pub opens : List (List ℕ) → LineRequest
opens names = ask.Told (tell.Table (length names))

-- the names of the tables after some lines, and what each line asks
abbrev pub names_from : List (List ℕ) → List (List ℕ) → List (List ℕ)
names_from names [] = names
names_from names (line ∷ lines) = names_from (names_by names line) lines

abbrev pub asked_from : List (List ℕ) → List (List ℕ) → List LineRequest
asked_from names [] = []
asked_from names (line ∷ lines) = asked_by names line ∷ asked_from (names_by names line) lines

abbrev pub names_after : List (List ℕ) → List (List ℕ)
names_after lines = names_from [] lines

abbrev pub asked_on : List (List ℕ) → List LineRequest
asked_on lines = asked_from [] lines

-- what is asked of the desk
abbrev pub event_in : LineRequest → Option Event
event_in (ask.Told told) = None
event_in (ask.Event event) = Some event

abbrev pub events_of : List LineRequest → List Event
events_of asked = filter_map event_in asked
