use Rattle.std.proofs.Common.{◌≡◌, ◌+◌, ◌≤◌, ◌++◌, ℕ, map, reverse, take, length, vec_len, vec_capacity}
use Rattle.desk_run.specs.Parts.{AreNewTables}
use Rattle.desk_run.specs.Players.{job_lists}
use Rattle.desk_run.specs.Sitting.{board_name}
use Rattle.desk_run.proofs.playing.seat_all.Given as goal

abbrev pub invariant-loop-table : goal.invariant-loop-table
invariant-loop-table l = record {
  tables : (places : ℕ) × AreNewTables (board_name l.board) places l.tables.items;
  counts : (vec_len l.tables ≡ l.table) × (vec_len l.players + l.table ≡ length l.jobs) × (length l.jobs ≤ vec_capacity l.players);
  lists : map (λ list. list.items) (take l.table l.jobs) ++ reverse (job_lists l.players.items) ≡ map (λ list. list.items) l.jobs;
}
