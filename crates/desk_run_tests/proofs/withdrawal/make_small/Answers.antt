use Rattle.desk_run.proofs.Parting.{last_table, last_worker}
use Rattle.desk_run_tests.proofs.withdrawal.make_small.Goals as goal

pub of-requires-clause-table : goal.of-requires-clause-table
of-requires-clause-table g c = (last_table _ _ _ _ _ c.in-Ok.ensures.tables c.in-Some-Some.ensures.items).0

pub of-requires-clause-worker : goal.of-requires-clause-worker
of-requires-clause-worker g c = (last_worker _ _ _ _ c.in-Ok.ensures.workers c.in-Some-Some.ensures'.items).0
