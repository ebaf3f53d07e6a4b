use Rattle.std.proofs.Common.{◌≡◌, ◌++◌, ◌≤◌, ◌<◌, length}
use Rattle.desk_run.specs.Sitting.{Collects, out_places, board_name}
use Rattle.desk_run.proofs.table_seat.TableSeat.collect.Given as goal

abbrev pub invariant-loop-offset : goal.invariant-loop-offset
invariant-loop-offset l = record {
  id : l.self.board ≡ board_name l.board;
  base : l.self.base ≡ l.initial.self.base;
  end : l.offset-end ≡ length l.self.states;
  few : (l.offset-end < 4096) × (l.count ≤ l.offset);
  arrived : Collects l.count l.initial.self.lane l.initial.self.states l.self.lane l.self.states;
  lost : l.self.lost ≡ l.initial.self.lost ++ out_places l.initial.self.base l.self.states l.offset;
}
