-- How far a table is that plays a list of jobs.
use Rattle.std.specs.Prelude.{◌≡◌, ℕ, ◌≤◌, Bool, true, List, [], ◌++◌, map, take, length}
use Rattle.desk_core.specs.Value.{value_of}
use Rattle.desk_core.specs.LaneState.{LaneState}
use Rattle.desk_core.specs.declared.answer.Answer.{Answer}
use Rattle.riichi_hand.specs.declared.job.Job.{Job}

-- the values of the jobs
abbrev pub values : List Job → List Answer
values jobs = map value_of jobs

-- the jobs of a lane's window
abbrev pub window_jobs : List (Job × Bool) → List Job
window_jobs window = map (λ entry. entry.0) window

-- The first jobs were submitted; the answers so far, with the values of those that the lane still
-- has, are their values; none was withdrawn; and a closed table has submitted them all.
pub record IsPlayed (lane : LaneState) (jobs : List Job) (next : ℕ) (answers : List Answer) : Type 0 where
  pub given : answers ++ values (window_jobs lane.window) ≡ values (take next jobs)
  pub within : next ≤ length jobs
  pub none_withdrawn : lane.withdrawn ≡ []
  pub all : lane.closed ≡ true → next ≡ length jobs
