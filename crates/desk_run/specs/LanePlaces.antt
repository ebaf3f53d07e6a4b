-- How a table's places agree with its lane.
use Rattle.std.specs.Prelude.{◌≡◌, ℕ, ◌+◌, ◌-◌, ◌<◌, ◌≤◌, Bool, true, false, List, length, count_by}
use mathlib.Core.Option as ghost_option
use lib.ListN.{get_elem?}
use Rattle.desk_core.specs.LaneState.{LaneState, is_among}
use Rattle.desk_core.specs.declared.ticket.Ticket.{Ticket}
use Rattle.riichi_hand.specs.declared.job.Job.{Job}
use Rattle.desk_run.specs.Counts.{same_ticket}
use Rattle.desk_run.specs.declared.place_state.PlaceState.{PlaceState}
use Rattle.desk_run.specs.declared.place_state.PlaceState.TheVariants.{Fresh, Vacant, Out}

abbrev pub ticket : ℕ → ℕ → Ticket
ticket table seq = record { table = table; seq = seq }

-- how many jobs the lane has accepted
abbrev pub count_accepted : LaneState → ℕ
count_accepted lane = lane.next + length lane.window

-- the lane gave the ticket out for the job, and no piece has arrived for it
abbrev pub IsPending : LaneState → Ticket → Job → Type 0
IsPending lane x job =
    (x.table ≡ lane.table) × (lane.next ≤ x.seq) × (get_elem? lane.window (x.seq - lane.next) ≡ ghost_option.some (job, false))

abbrev pub has_ticket_out : PlaceState → Bool
has_ticket_out (Out x job) = true
has_ticket_out other = false

-- how many places are out
abbrev pub outs : List PlaceState → ℕ
outs states = count_by has_ticket_out states

abbrev pub is_out : Ticket → PlaceState → Bool
is_out x Fresh = false
is_out x Vacant = false
is_out x (Out y job) = same_ticket x y

-- at how many places the ticket is out
abbrev pub times_out : Ticket → List PlaceState → ℕ
times_out x states = count_by (is_out x) states

-- the table withdrew the ticket with this number
abbrev pub lane_withdrew : LaneState → ℕ → Bool
lane_withdrew lane seq = is_among lane.withdrawn seq

-- Each ticket of the lane's window that has neither arrived nor was withdrawn is out with its job, at
-- one place, and each other ticket that is out was withdrawn. Each other place is vacant.
pub record Agrees (lane : LaneState) (states : List PlaceState) (vacant : List ℕ) : Type 0 where
  pub vacant_are : (i k : ℕ) → get_elem? vacant i ≡ ghost_option.some k → get_elem? states k ≡ ghost_option.some Vacant
  pub once : (i j k : ℕ) → get_elem? vacant i ≡ ghost_option.some k → get_elem? vacant j ≡ ghost_option.some k → i ≡ j
  pub counted : length vacant + outs states ≡ length states
  pub own : (k : ℕ) (x : Ticket) (job : Job) → get_elem? states k ≡ ghost_option.some (Out x job)
      → (x.table ≡ lane.table) × (x.seq < count_accepted lane)
  pub pending : (k : ℕ) (x : Ticket) (job : Job) → get_elem? states k ≡ ghost_option.some (Out x job)
      → lane_withdrew lane x.seq ≡ false → IsPending lane x job
  pub listed : (i : ℕ) (job : Job) → get_elem? lane.window i ≡ ghost_option.some (job, false)
      → lane_withdrew lane (lane.next + i) ≡ false → times_out (ticket lane.table (lane.next + i)) states ≡ 1
