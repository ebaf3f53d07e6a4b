-- The answer to a line of a script, as text.
use Rattle.std.specs.Prelude.{ℕ, List, ◌++◌, Bool, true, false, Option, None, Some, codes, decimal}
use Rattle.arrayvec.specs.ArrayString.{ArrayString}
use Rattle.riichi_hand.specs.FaultTexts.{fault_text}
use Rattle.desk_core.specs.AnswerText.{answer_text}
use Rattle.desk_core.specs.declared.refusal.SubmitFault.{SubmitFault}
use Rattle.desk_core.specs.declared.refusal.SubmitFault.TheVariants as fault
use Rattle.desk_core.specs.declared.arrived.Arrived.{Arrived}
use Rattle.desk_core.specs.declared.arrived.Arrived.TheVariants as arrived
use Rattle.desk_core.specs.declared.taken.Taken.{Taken}
use Rattle.desk_core.specs.declared.taken.Taken.TheVariants as taken
use Rattle.desk_core.specs.declared.reply.Reply.{Reply}
use Rattle.desk_core.specs.declared.reply.Reply.TheVariants as reply
use Rattle.desk_script.specs.declared.refusal.Refusal.{Refusal}
use Rattle.desk_script.specs.declared.refusal.Refusal.TheVariants.{NoCommand, NotOpen, OpenAlready, AllOpen, Record}
use Rattle.desk_script.specs.declared.told.Told.{Told}
use Rattle.desk_script.specs.declared.told.Told.TheVariants as tell

abbrev pub refusal_text : Refusal → List ℕ
refusal_text NoCommand = codes "refused P1"
refusal_text NotOpen = codes "refused P2"
refusal_text OpenAlready = codes "refused P3"
refusal_text AllOpen = codes "refused P4"
refusal_text (Record fault) = fault_text fault

abbrev pub submit_fault_text : SubmitFault → List ℕ
submit_fault_text fault.Closed = codes "refused C1"
submit_fault_text fault.Limit = codes "refused C2"
submit_fault_text fault.Memory = codes "refused C3"

abbrev pub arrived_text : Arrived → List ℕ
arrived_text arrived.Accepted = codes "accepted"
arrived_text arrived.Withdrawn = codes "withdrawn"
arrived_text arrived.Doubled = codes "doubled"
arrived_text arrived.Stranger = codes "stranger"

abbrev pub closed_text : Bool → List ℕ
closed_text true = codes "closed"
closed_text false = codes "closed before"

abbrev pub withdrawn_text : Bool → List ℕ
withdrawn_text true = codes "withdrawn"
withdrawn_text false = codes "not withdrawn"

abbrev pub taken_text : Taken → List ℕ
taken_text (taken.Answer seq answer) = codes "answer " ++ decimal seq ++ codes " " ++ answer_text answer
taken_text taken.Waiting = codes "waiting"
taken_text taken.Finished = codes "finished"

-- a desk of 64 tables knows each that a script can name, so the first is never written
abbrev pub reply_text : Reply → List ℕ
reply_text reply.NoTable = codes "refused P2"
reply_text (reply.Ticket ticket) = codes "ticket " ++ decimal ticket.seq
reply_text (reply.Refused fault) = submit_fault_text fault
reply_text (reply.Arrived arrived) = arrived_text arrived
reply_text (reply.Closed first) = closed_text first
reply_text (reply.Taken taken) = taken_text taken
reply_text (reply.Withdrawn done) = withdrawn_text done

unfoldable pub told_text : Told → Option (List ℕ)
told_text tell.Nothing = None
told_text (tell.Refused refusal) = Some (refusal_text refusal)
told_text (tell.Table number) = Some (codes "table " ++ decimal number)
told_text (tell.Replied reply) = Some (reply_text reply)

-- the bytes of a text, where there is one
abbrev pub bytes_of : Option ArrayString → Option (List ℕ)
bytes_of None = None
bytes_of (Some text) = Some text.bytes
