use Rattle.desk_run.proofs.WorkerThreads.{may_more}
use Rattle.desk_run.proofs.start.ask_all.Goals as goal

pub loop-worker-preserved : goal.loop-worker-preserved
loop-worker-preserved g c =
    may_more g.S.Start.asked c.loop-worker.worker c.args.start.now c.loop-worker.start c.start.new.self c.loop-worker.invariant c.if-not-start.ensures
