-- What clauses read of a board and of a seat.
use Rattle.std.specs.Prelude.{◌≡◌}
use Rattle.atomic_table.specs.Seated.{TableId}
use Rattle.desk_run.specs.Plays.{SeatState, table_seen, worker_seen, stop_seen}
use Rattle.desk_run.specs.declared.view.View.TheVariants.{Table, Worker, Stop}
use Rattle.desk_run.specs.declared.board.Board.{Board}

abbrev pub board_id : Board → TableId
board_id board = board.table.shared.table_id

abbrev pub IsTable : SeatState → Type 0
IsTable m = m.0 ≡ Table (table_seen m.0)

abbrev pub IsWorker : SeatState → Type 0
IsWorker m = m.0 ≡ Worker (worker_seen m.0)

abbrev pub IsStop : SeatState → Type 0
IsStop m = m.0 ≡ Stop (stop_seen m.0)
