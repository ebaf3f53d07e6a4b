use Rattle.std.proofs.Common.{ap, ◌∙◌, ◌++◌, ◌∷◌, [], append_assoc, List}
use Rattle.desk_core.specs.declared.ticket.Ticket.{Ticket}
use Rattle.desk_run.proofs.WorkerThreads.{folds_more}
use Rattle.desk_run.proofs.worker_thread.work.Goals as goal

pub loop-preserved-in-Did : goal.loop-preserved-in-Did
loop-preserved-in-Did g c = let i = c.loop.invariant in let did = c.work_once.ensures.did c.in-Did.field-0 c.in-Did.is in (
  tt,
  tt,
  c.work_once.ensures.board ∙ i.2,
  (
    i.3.0 ++ c.in-Did.field-0 ∷ [],
    did.0 ∙ ap (λ (l : List Ticket). l ++ c.in-Did.field-0 ∷ []) i.3.1 ∙ append_assoc _ i.3.0 (c.in-Did.field-0 ∷ []),
    folds_more _ _ _ _ i.3.0 c.in-Did.field-0 i.3.2 (c.work_once.ensures.called c.in-Did.field-0 c.in-Did.is),
  ),
)
