-- What callers see of the seats.
use Rattle.std.specs.Prelude.{ℕ, Bool, List}
use Rattle.atomic_table.specs.Seated.{TableId}
use Rattle.desk_core.specs.LaneState.{LaneState}
use Rattle.desk_core.specs.declared.ticket.Ticket.{Ticket}
use Rattle.desk_run.specs.Plays.{SeatState, table_seen, worker_seen, stop_seen}
use Rattle.desk_run.specs.declared.place_state.PlaceState.{PlaceState}

-- a table's seat: its board, its lane, what is at each of its places, the first of these places on
-- the board, and the places of the board where it found no piece
pub record TableState : Type 0 where
  pub board : TableId
  pub lane : LaneState
  pub states : List PlaceState
  pub base : ℕ
  pub lost : List ℕ

-- a worker's seat: its board, the tickets that it finished, the places of the board where it found
-- nothing ready, how often it looked for the stop, and whether it knows of it
pub record WorkerState : Type 0 where
  pub board : TableId
  pub finished : List Ticket
  pub lost : List ℕ
  pub looks : ℕ
  pub knows_stop : Bool

-- the stop seat: its board, and whether it has stopped the workers
pub record StopState : Type 0 where
  pub board : TableId
  pub knows_stop : Bool

-- these states, as the seats have them

abbrev pub table_state : TableId → SeatState → ℕ → LaneState → List PlaceState → TableState
table_state board m base lane states = record { board = board; lane = lane; states = states; base = base; lost = (table_seen m.0).lost }

abbrev pub worker_state : TableId → SeatState → WorkerState
worker_state board m = let v = worker_seen m.0 in
    record { board = board; finished = v.finished; lost = v.lost; looks = v.looks; knows_stop = v.knows_stop }

abbrev pub stop_state : TableId → SeatState → StopState
stop_state board m = record { board = board; knows_stop = (stop_seen m.0).knows_stop }
