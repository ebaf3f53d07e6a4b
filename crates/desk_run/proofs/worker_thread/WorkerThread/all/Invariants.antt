use Rattle.std.proofs.Common.{◌≡◌, ◌+◌, ◌++◌, map, reverse, vec_len}
use Rattle.desk_run.specs.Parts.{AreNewWorkers}
use Rattle.desk_run.specs.Sitting.{board_name}
use Rattle.desk_run.proofs.worker_thread.WorkerThread.all.Given as goal

abbrev pub invariant-loop-worker : goal.invariant-loop-worker
invariant-loop-worker g l = record {
  new : AreNewWorkers (board_name l.board) l.workers.items;
  counts : (vec_len l.workers ≡ vec_len l.gates) × (vec_len l.gates + l._worker ≡ l._worker-end);
  workers : l.workers.items ++ reverse (map (λ worker. worker.seat) l.threads.items) ≡ l.initial.workers.items;
  gates : l.gates.items ++ reverse (map (λ worker. worker.gate) l.threads.items) ≡ l.initial.gates.items;
}
