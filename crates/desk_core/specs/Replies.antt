-- The reply that the result of a call stands for.
use Rattle.std.specs.Prelude.{Bool, Result, Ok, Err}
use Rattle.desk_core.specs.declared.ticket.Ticket.{Ticket}
use Rattle.desk_core.specs.declared.refusal.SubmitBack.{SubmitBack}
use Rattle.desk_core.specs.declared.reply.Reply.{Reply}
use Rattle.desk_core.specs.declared.reply.Reply.TheVariants as reply
use Rattle.desk_core.specs.declared.refusal.SubmitFault.TheVariants as fault

abbrev pub submit_reply : Result Ticket SubmitBack → Reply
submit_reply (Ok ticket) = reply.Ticket ticket
submit_reply (Err back) = reply.Refused back.fault

abbrev pub withdraw_reply : {E : Type 0} → Result Bool E → Reply
withdraw_reply (Ok withdrawn) = reply.Withdrawn withdrawn
withdraw_reply (Err refused) = reply.Refused fault.Memory
