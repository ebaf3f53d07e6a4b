use Rattle.std.proofs.Common.{arith}
use Rattle.desk_run.proofs.Parting.{last_worker, fewer_workers}
use Rattle.desk_run.proofs.WorkerThreads.{reversed_more}
use Rattle.desk_run.proofs.worker_thread.WorkerThread.all.Goals as goal

pub new-requires-in-loop-worker : goal.new-requires-in-loop-worker
new-requires-in-loop-worker g c = record {
  here = (last_worker _ _ _ _ c.loop-worker.invariant.new c.in-Some-Some.ensures.items).0;
  rows = c.in-Ok.ensures;
}

pub loop-worker-preserved : goal.loop-worker-preserved
loop-worker-preserved g c = let i = c.loop-worker.invariant in record {
  new = fewer_workers _ _ _ _ i.new c.in-Some-Some.ensures.items;
  counts = (let n = i.counts in let a = c.in-Some-Some.ensures.len in let b = c.in-Some-Some.ensures'.len in (omega arith, omega arith));
  workers = reversed_more _ _ _ _ _ _ _ _ c.in-Some-Some.ensures.items c.new-in-loop-worker.ensures.0 c.in_ok-push.ensures.items i.workers;
  gates = reversed_more _ _ _ _ _ _ _ _ c.in-Some-Some.ensures'.items c.new-in-loop-worker.ensures.1 c.in_ok-push.ensures.items i.gates;
}
