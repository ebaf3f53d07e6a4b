-- A job under its ticket: what a piece is, since its answer is the value of its job.
use Rattle.riichi_hand.specs.declared.job.Job.{Job}
use Rattle.desk_core.specs.declared.ticket.Ticket.{Ticket}

pub record Ticketed : Type 0 where
  pub ticket : Ticket
  pub job : Job
