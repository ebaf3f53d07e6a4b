use Rattle.std.proofs.Common.{ap, ◌∙◌}
use Rattle.desk_run.specs.SeatStates.{TableState}
use Rattle.desk_run_tests.proofs.withdrawal.Small.withdraw.Goals as goal

pub invariant_of-self : goal.invariant_of-self
invariant_of-self c = let b = c.args.self.now in record {
  table_here = ap (λ (s : TableState). s.board) c.withdraw.ensures.same ∙ b.table_here;
  worker_here = b.worker_here;
}
