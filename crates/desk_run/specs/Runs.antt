-- Which runs are in range, and what a run answers.
use Rattle.std.specs.Prelude.{◌≡◌, ℕ, ◌≤◌, All, List, length, map, vec_len}
use Rattle.std.specs.Global.{Vec}
use Rattle.desk_core.specs.declared.answer.Answer.{Answer}
use Rattle.desk_core.specs.declared.lane.TheConstants.{LIMIT}
use Rattle.riichi_hand.specs.declared.job.Job.{Job}
use Rattle.desk_run.specs.Parts.{IsInRange, AreNewTables}
use Rattle.desk_run.specs.Sitting.{board_name}
use Rattle.desk_run.specs.declared.running.TablesThread.{TablesThread}
use Rattle.desk_run.specs.Played.{values}

-- a board for so many tables, workers and places, and no table with more jobs than it may submit
abbrev pub IsRunnable : List (Vec Job) → ℕ → ℕ → Type 0
IsRunnable jobs workers places = IsInRange (length jobs) workers places × All (λ list. vec_len list ≤ LIMIT) jobs

-- for each table, in order, the values of its jobs, in order
abbrev pub AreValues : List (Vec Job) → List (Vec Answer) → Type 0
AreValues jobs answers = map (λ given. given.items) answers ≡ map (λ list. values list.items) jobs

-- a new board for so many lists of jobs, with all its tables and the seat that stops its workers
abbrev pub IsReady : TablesThread → ℕ → Type 0
IsReady tables_thread lists =
    ((places : ℕ) × AreNewTables (board_name tables_thread.board.now) places tables_thread.tables.items)
    × (vec_len tables_thread.tables ≡ lists) × (tables_thread.stop.board ≡ board_name tables_thread.board.now)
