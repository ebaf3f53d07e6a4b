-- What the state of a desk stands for, and the promise of a whole run.
use Rattle.std.specs.Prelude.{◌≡◌, ℕ, ◌<◌, false, List, ◌++◌, length, map, drop, Some, slice_get}
use Rattle.desk_core.specs.LaneState.{LaneState}
use Rattle.desk_core.specs.History.{Turn, turns_of, submitted, is_withdrawn, HasArrived, given, answers_due, IsLegal, GivenInOrder}
use Rattle.desk_core.specs.Step.{StandsFor}
use Rattle.desk_core.specs.declared.answer.Answer.{Answer}
use Rattle.desk_core.specs.declared.event.Event.TheVariants.{Take}
use Rattle.desk_core.specs.declared.reply.Reply.{Reply}
use Rattle.desk_core.specs.declared.reply.Reply.TheVariants as reply
use Rattle.desk_core.specs.declared.taken.Taken.TheVariants as taken

-- the lanes stand for the history: it is legal, and each lane is that of its place and stands for it
pub record DeskStandsFor (lanes : List LaneState) (history : List Turn) : Type 0 where
  pub legal : IsLegal (length lanes) history
  pub each : (table : ℕ) (lane : LaneState) → slice_get lanes table ≡ Some lane
      → (lane.table ≡ table) × StandsFor lane (length lanes) history

-- For each history that the old lanes stand for, the new ones stand for that history and these turns.
abbrev pub IsDeskRun : List LaneState → List Turn → List LaneState → Type 0
IsDeskRun old turns new = (history : List Turn) → DeskStandsFor old history → DeskStandsFor new (history ++ turns)

-- the piece of each submitted job that was not withdrawn has arrived
abbrev pub AllArrived : List Turn → Type 0
AllArrived turns = (i : ℕ) → i < length (submitted turns) → is_withdrawn turns i ≡ false → HasArrived turns i

-- the answers due and not yet given, each with its number
abbrev pub answers_left : List Turn → List (ℕ × Answer)
answers_left turns = drop (length (given turns)) (answers_due turns)

-- takings of a table, with their replies
abbrev pub takings : ℕ → List Reply → List Turn
takings table replies = map (λ replied. (Take table, replied)) replies

-- On a table's turns: after turns by which each piece has arrived, as many takings of the table in
-- a row as answers are left give each of them, whatever the other tables did between.
abbrev pub GivesAll : ℕ → List Turn → Type 0
GivesAll table turns =
    (before : List Turn) (replies : List Reply) (rest : List Turn) → before ++ takings table replies ++ rest ≡ turns
    → AllArrived before
    → length replies ≡ length (answers_left before)
    → replies ≡ map (λ answer. reply.Taken (taken.Answer answer.0 answer.1)) (answers_left before)

-- Each reply is the one that it must be. What each table was given is a front of the values of the
-- hands that it submitted before closing and did not withdraw, in its order, each once. Once every
-- piece of these has arrived, taking gives them all.
pub record KeepsItsPromise (tables : ℕ) (history : List Turn) : Type 0 where
  pub legal : IsLegal tables history
  pub in_order : (table : ℕ) → table < tables → GivenInOrder (turns_of table history)
  pub gives_all : (table : ℕ) → table < tables → GivesAll table (turns_of table history)
