-- What a lane is to its callers.
use Rattle.std.specs.Prelude.{◌≡◌, ◌≢◌, ℕ, ◌+◌, ◌<◌, ◌≤◌, ◌==◌, ◌||◌, ◌⊎◌, Bool, true, false, List, [], ◌∷◌, ◌++◌, length, drop, Some, slice_get, slice_set}
use Rattle.std.specs.List.{list_any}
use Rattle.desk_core.specs.Ticketed.{Ticketed}
use Rattle.desk_core.specs.declared.lane.TheConstants.{LIMIT}
use Rattle.desk_core.specs.declared.refusal.SubmitFault.{SubmitFault}
use Rattle.desk_core.specs.declared.refusal.SubmitFault.TheVariants as fault
use Rattle.riichi_hand.specs.declared.job.Job.{Job}

-- the table; the least ticket that was neither given nor withdrawn; from that one on, each job, and
-- whether its piece has arrived; the numbers that were withdrawn; and whether the table has closed
pub record LaneState : Type 0 where
  pub table : ℕ
  pub next : ℕ
  pub window : List (Job × Bool)
  pub withdrawn : List ℕ
  pub closed : Bool

abbrev pub new_lane : ℕ → LaneState
new_lane table = record { table = table; next = 0; window = []; withdrawn = []; closed = false }

-- whether the number is one of these
abbrev pub is_among : List ℕ → ℕ → Bool
is_among numbers i = list_any (λ number. i == number) numbers

-- the lane with one more job
abbrev pub with_job : LaneState → Job → LaneState
with_job lane job = record lane { window = lane.window ++ (job, false) ∷ [] }

-- the table takes one more job: it is open, and below its limit
abbrev pub AcceptsJob : LaneState → Type 0
AcceptsJob lane = (lane.closed ≡ false) × (lane.next + length lane.window ≢ LIMIT)

-- why a job is refused: the table has closed; else it is at its limit; else there is no memory
abbrev pub RefusesJob : LaneState → SubmitFault → Type 0
RefusesJob lane fault.Closed = lane.closed ≡ true
RefusesJob lane fault.Limit = (lane.closed ≡ false) × (lane.next + length lane.window ≡ LIMIT)
RefusesJob lane fault.Memory = AcceptsJob lane

-- the job of the piece was in the window, and its piece has arrived now
abbrev pub TakesInPiece : LaneState → Ticketed → LaneState → Type 0
TakesInPiece old piece new =
    (place : ℕ) × (old.next + place ≡ piece.ticket.seq) × (slice_get old.window place ≡ Some (piece.job, false))
    × (new ≡ record old { window = slice_set old.window place (piece.job, true) })

-- the lane without the withdrawn jobs at the front of its window
pub record PassesWithdrawn (old new : LaneState) : Type 0 where
  pub count : ℕ
  pub within : count ≤ length old.window
  pub each : (i : ℕ) → i < count → is_among old.withdrawn (old.next + i) ≡ true
  pub ends : (new.window ≡ []) ⊎ (is_among old.withdrawn new.next ≡ false)
  pub new_is : new ≡ record old { next = old.next + count; window = drop count old.window }

-- the ticket is in the window, and was not withdrawn before
pub record CanTakeBack (lane : LaneState) (seq : ℕ) : Type 0 where
  pub given_out : seq < lane.next + length lane.window
  pub not_given : lane.next ≤ seq
  pub first_time : is_among lane.withdrawn seq ≡ false

-- the lane takes the ticket back: its number is withdrawn, and the next ticket is one that is not
pub record TakesBack (old : LaneState) (seq : ℕ) (new : LaneState) : Type 0 where
  pub numbers : List ℕ
  pub added : (i : ℕ) → is_among numbers i ≡ (is_among old.withdrawn i || (i == seq))
  pub passes : PassesWithdrawn (record old { withdrawn = numbers }) new

-- the ticket of the piece was given out for its job and not withdrawn, and no piece has arrived for it
abbrev pub Awaits : LaneState → Ticketed → Type 0
Awaits lane piece =
    (piece.ticket.table ≡ lane.table)
    × (is_among lane.withdrawn piece.ticket.seq ≡ false)
    × ((place : ℕ) × (lane.next + place ≡ piece.ticket.seq) × (slice_get lane.window place ≡ Some (piece.job, false)))

-- so many new lanes, each for the table of its place
pub record IsNewDesk (tables : ℕ) (lanes : List LaneState) : Type 0 where
  pub count : length lanes ≡ tables
  pub each : (table : ℕ) (lane : LaneState) → slice_get lanes table ≡ Some lane → lane ≡ new_lane table
