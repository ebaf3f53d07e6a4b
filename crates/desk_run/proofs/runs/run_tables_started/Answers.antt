use Rattle.std.proofs.Common.{ℕ, inl, subst, refl}
use mir.Syntax.{of_param}
use denote.Exit.{unseen}
use denote.Param.Send.{Quiet-if}
use Rattle.desk_run.specs.Started.{IsStartRefused}
use Rattle.desk_run.proofs.runs.run_tables_started.Goals as goal

-- a gate may be sent to a thread, and the runtime lent to one, as the function's bounds say
pub scoped-requires : goal.scoped-requires
scoped-requires g c =
    let made = c.in-Ok.ensures in
    record { at = λ scope. (((_, made.tables), made.counts.0, made.stop.0), (record { owned = c.type_bounds.send-G.owned; leaving = λ k. Quiet-if (k (of_param 1)) unseen unseen (λ x w. tt) (λ x w. tt) }, record { shared = c.type_bounds.sync-R.shared })) }

pub returns-then-not-ask_all-clause-thread : goal.returns-then-not-ask_all-clause-thread
returns-then-not-ask_all-clause-thread g c = λ _. inl (subst (λ (n : ℕ). IsStartRefused g.S.Start.asked n c.args.start.now c.ask_all.new.start) c.len-count.ensures (c.if-not-ask_all.ensures.refused refl))
