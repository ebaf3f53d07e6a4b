-- The seats that a new board gives.
use Rattle.std.specs.Prelude.{◌≡◌, ℕ, ◌*◌, ◌≤◌, false, List, [], length}
use mathlib.Core.Option as ghost_option
use lib.ListN.{get_elem?}
use Rattle.desk_core.specs.LaneState.{new_lane}
use Rattle.atomic_table.specs.Seated.{TableId}
use Rattle.desk_run.specs.LanePlaces.{outs}
use Rattle.desk_run.specs.SeatStates.{TableState, WorkerState}

-- 1 to 64 tables, 1 to 16 workers, and 1 to 32 places for each table
abbrev pub IsInRange : ℕ → ℕ → ℕ → Type 0
IsInRange tables workers places =
    (1 ≤ tables) × (tables ≤ 64) × (1 ≤ workers) × (workers ≤ 16) × (1 ≤ places) × (places ≤ 32)

-- table i of the board: its lane is new, none of its places is out, and they stand after those of the tables before it
abbrev pub IsNewTable : TableId → ℕ → ℕ → TableState → Type 0
IsNewTable id places i t =
    (t.board ≡ id) × (t.lane ≡ new_lane i) × (outs t.states ≡ 0) × (length t.states ≡ places) × (t.base ≡ i * places)

abbrev pub AreNewTables : TableId → ℕ → List TableState → Type 0
AreNewTables id places tables = (i : ℕ) (t : TableState) → get_elem? tables i ≡ ghost_option.some t → IsNewTable id places i t

-- a worker of the board that has finished nothing
abbrev pub IsNewWorker : TableId → WorkerState → Type 0
IsNewWorker id w =
    (w.board ≡ id) × (w.finished ≡ []) × (w.lost ≡ []) × (w.looks ≡ 0) × (w.knows_stop ≡ false)

abbrev pub AreNewWorkers : TableId → List WorkerState → Type 0
AreNewWorkers id workers = (i : ℕ) (w : WorkerState) → get_elem? workers i ≡ ghost_option.some w → IsNewWorker id w
