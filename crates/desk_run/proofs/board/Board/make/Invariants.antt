use Rattle.std.proofs.Common.{◌≡◌, ◌≤◌, [], vec_len, vec_capacity}
use Rattle.desk_run.specs.Sitting.{board_name}
use Rattle.desk_run.specs.Parts.{AreNewTables, AreNewWorkers}
use Rattle.desk_run.specs.Views.{entering}
use Rattle.desk_run.proofs.board.Board.make.Given as goal

abbrev pub invariant-loop-number : goal.invariant-loop-number
invariant-loop-number l = record {
  id : l.seat.table_id ≡ board_name l.board;
  me : l.seat.me ≡ (entering l.board.size, []);
  count : (vec_len l.tables ≡ l.number) × (l.size.tables ≤ vec_capacity l.tables);
  tables : AreNewTables (board_name l.board) l.size.places l.tables.items;
}

abbrev pub invariant-loop-number-2 : goal.invariant-loop-number-2
invariant-loop-number-2 l = record {
  id : l.seat.table_id ≡ board_name l.board;
  me : l.seat.me ≡ (entering l.board.size, []);
  count : (vec_len l.workers ≡ l.number) × (l.size.workers ≤ vec_capacity l.workers);
  workers : AreNewWorkers (board_name l.board) l.workers.items;
}
