-- What the state of a lane stands for, and what a step of it is.
use Rattle.std.specs.Prelude.{◌≡◌, ℕ, ◌+◌, ◌<◌, ◌↔◌, Bool, true, false, List, [], ◌∷◌, ◌++◌, map, drop, Some, slice_get}
use Rattle.desk_core.specs.LaneState.{LaneState, is_among}
use Rattle.desk_core.specs.History.{Turn, turns_of, submitted, has_closed, is_withdrawn, HasArrived, next_ticket, IsLegal}
use Rattle.riichi_hand.specs.declared.job.Job.{Job}
use Rattle.desk_core.specs.declared.event.Event.{Event}
use Rattle.desk_core.specs.declared.reply.Reply.{Reply}

-- The state is what the turns of its table left: the next ticket; each job from there on, with whether
-- its piece has arrived where it was not withdrawn; the withdrawn numbers; and whether the table has
-- closed.
pub record IsLeftBy (turns : List Turn) (lane : LaneState) : Type 0 where
  pub next : lane.next ≡ next_ticket turns
  pub jobs : map (λ entry. entry.0) lane.window ≡ drop lane.next (submitted turns)
  pub arrived : (k : ℕ) (job : Job) (has_arrived : Bool) → slice_get lane.window k ≡ Some (job, has_arrived)
      → is_withdrawn turns (lane.next + k) ≡ false
      → (has_arrived ≡ true) ↔ HasArrived turns (lane.next + k)
  pub withdrawn : (i : ℕ) → is_among lane.withdrawn i ≡ is_withdrawn turns i
  pub closed : lane.closed ≡ has_closed turns

-- the state stands for the history at a desk of so many tables
pub record StandsFor (lane : LaneState) (tables : ℕ) (history : List Turn) : Type 0 where
  pub in_range : lane.table < tables
  pub legal : IsLegal tables history
  pub state : IsLeftBy (turns_of lane.table history) lane

-- For each history that the old state stands for, the reply is the one that the event must have,
-- and the new state stands for that history with this event and reply.
abbrev pub IsStep : LaneState → Event → Reply → LaneState → Type 0
IsStep old event reply new =
    (tables : ℕ) (history : List Turn) → StandsFor old tables history → StandsFor new tables (history ++ (event, reply) ∷ [])
