use Rattle.std.proofs.Common.{◌≡◌, ◌++◌}
use Rattle.desk_run.specs.Sitting.{places_from, board_name}
use Rattle.desk_run.proofs.worker_seat.WorkerSeat.work_once.Given as goal

abbrev pub invariant-loop-place : goal.invariant-loop-place
invariant-loop-place g l = record {
  id : l.self.board ≡ board_name l.board;
  end : l.place-end ≡ (board_name l.board).slots;
  finished : l.self.finished ≡ l.initial.self.finished;
  stop : (l.self.knows_stop ≡ l.initial.self.knows_stop) × (l.self.looks ≡ l.initial.self.looks);
  lost : l.self.lost ≡ l.initial.self.lost ++ places_from 0 l.place;
  gate : l.gate ≡ l.initial.gate;
  source : l.source ≡ l.initial.source;
}
