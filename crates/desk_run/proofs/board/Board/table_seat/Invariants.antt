use Rattle.std.proofs.Common.{◌≡◌, ◌≤◌, ◌*◌, length, vec_capacity}
use Rattle.desk_core.specs.LaneState.{new_lane}
use Rattle.desk_run.specs.Plays.{table_seen}
use Rattle.desk_run.specs.Sitting.{Sits, board_name}
use Rattle.desk_run.proofs.TakingUp.{TakenUp}
use Rattle.desk_run.proofs.board.Board.table_seat.Given as goal

abbrev pub invariant-loop-offset : goal.invariant-loop-offset
invariant-loop-offset l = record {
  id : l.seat.table_id ≡ board_name l.self;
  sits : Sits l.seat.me l.base (new_lane l.number) (table_seen l.seat.me.0).states l.vacant.items;
  up : TakenUp l.offset (table_seen l.seat.me.0).states l.vacant.items;
  base : l.base ≡ l.number * l.self.size.places;
  places : (l.places ≡ l.self.size.places) × (length (table_seen l.seat.me.0).states ≡ l.places) × (l.places ≤ vec_capacity l.vacant);
}
