-- The players of a run: each has its list of jobs.
use Rattle.std.specs.Prelude.{◌≡◌, ℕ, ◌<◌, List, map}
use mathlib.Core.Option.{some}
use lib.ListN.{get_elem?}
use Rattle.riichi_hand.specs.declared.job.Job.{Job}
use Rattle.desk_run.specs.Played.{values}
use Rattle.desk_run.specs.declared.player.Player.{Player}

-- the lists of jobs that these players have
abbrev pub job_lists : List Player → List (List Job)
job_lists players = map (λ player. player.jobs.now) players

-- the first n players were given the values of all their jobs
abbrev pub AreDone : ℕ → List Player → Type 0
AreDone n players = (i : ℕ) (player : Player) → i < n → get_elem? players i ≡ some player → player.answers.items ≡ values player.jobs.now
