-- A job of a lane, with whether its piece has arrived.
use Rattle.std.specs.Prelude.{◌≡◌, ◌≢◌, Bool, true, false}
use Rattle.riichi_hand.specs.declared.job.Job.{Job}
use Rattle.desk_core.specs.declared.arrived.Arrived.{Arrived}
use Rattle.desk_core.specs.declared.arrived.Arrived.TheVariants as arrived
use Rattle.desk_core.specs.declared.entry.Entry.{Entry}
use Rattle.desk_core.specs.declared.entry.Entry.TheVariants as entry

-- the job, and whether its piece has arrived
abbrev pub job_with_arrival : Entry → Job × Bool
job_with_arrival (entry.Waiting job) = (job, false)
job_with_arrival (entry.Scored piece) = (piece.job, true)

-- what becomes of a piece with this job, and of the entry
abbrev pub TakesIn : Job × Bool → Job → Arrived → Job × Bool → Type 0
TakesIn old job arrived.Doubled new = (old.1 ≡ true) × (new ≡ old)
TakesIn old job arrived.Stranger new = (old.1 ≡ false) × (old.0 ≢ job) × (new ≡ old)
TakesIn old job arrived.Accepted new = (old ≡ (job, false)) × (new ≡ (job, true))
TakesIn old job arrived.Withdrawn new = ⊥
