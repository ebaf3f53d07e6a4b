use Rattle.desk_run.specs.Started.{MayStart}
use Rattle.desk_run.proofs.start.ask_all.Given as goal

abbrev pub invariant-loop-worker : goal.invariant-loop-worker
invariant-loop-worker g l = MayStart g.S.Start.asked l.worker l.initial.start l.start
