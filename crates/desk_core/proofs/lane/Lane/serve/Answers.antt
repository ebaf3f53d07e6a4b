use Rattle.std.proofs.Common.{◌≡◌, ℕ, sym, ap, ◌∙◌, subst}
use Rattle.desk_core.specs.History.{table_of}
use Rattle.desk_core.specs.Step.{IsStep}
use Rattle.desk_core.specs.declared.event.Event.{Event}
use Rattle.desk_core.specs.declared.event.Event.TheVariants as event
use Rattle.desk_core.specs.declared.reply.Reply.{Reply}
use Rattle.desk_core.specs.declared.ticket.Ticket.{Ticket}
use Rattle.desk_core.specs.LaneState.{LaneState}
use Rattle.desk_core.proofs.lane.Lane.serve.Goals as goal

-- a withdrawal of this table is that of a ticket of its number
step_of : (old new : LaneState) (asked : Event) (ticket : Ticket) (replied : Reply) → event.Withdraw ticket ≡ asked → table_of asked ≡ old.table
    → IsStep old (event.Withdraw (record { table = old.table; seq = ticket.seq })) replied new → IsStep old asked replied new
step_of old new asked ticket replied is about step =
    let own : ticket.table ≡ old.table = ap table_of is ∙ about in
    subst (λ (e : Event). IsStep old e replied new) (ap (λ (t : ℕ). event.Withdraw (record { table = t; seq = ticket.seq })) (sym own) ∙ is) step

pub returns-in-Ok-withdraw-clause-step : goal.returns-in-Ok-withdraw-clause-step
returns-in-Ok-withdraw-clause-step c = λ about.
    step_of c.args.self.now c.withdraw.new.self c.args.event c.in-Withdraw.ticket _ (sym c.in-Withdraw.is) about c.in-Ok-withdraw.ensures.step

pub returns-in-Err-withdraw-clause-step : goal.returns-in-Err-withdraw-clause-step
returns-in-Err-withdraw-clause-step c = λ about.
    step_of c.args.self.now c.withdraw.new.self c.args.event c.in-Withdraw.ticket _ (sym c.in-Withdraw.is) about c.in-Err-withdraw.ensures.step
