-- What a seat that is not in a call has.
use Rattle.std.specs.Prelude.{◌≡◌, ℕ, zero, suc, ◌+◌, ◌≤◌, ◌<◌, List, [], ◌∷◌, ◌++◌, None, length, slice_set, slice_index_or, MatchBool}
use mathlib.Core.Option as ghost_option
use lib.ListN.{get_elem?}
use Rattle.desk_core.specs.LaneState.{LaneState, TakesInPiece}
use Rattle.desk_core.specs.Step.{IsStep}
use Rattle.desk_core.specs.declared.event.Event.TheVariants.{Arrive}
use Rattle.desk_core.specs.declared.reply.Reply.TheVariants as reply
use Rattle.desk_core.specs.declared.arrived.Arrived.TheVariants as arrived
use Rattle.desk_run.specs.LanePlaces.{count_accepted, lane_withdrew}
use Rattle.desk_core.specs.Ticketed.{Ticketed}
use Rattle.desk_run.specs.declared.content.Content.{Content}
use Rattle.desk_run.specs.declared.content.Content.TheVariants.{Empty}
use Rattle.desk_run.specs.declared.place_state.PlaceState.{PlaceState}
use Rattle.desk_run.specs.declared.place_state.PlaceState.TheVariants.{Fresh, Vacant, Out}
use base.Stored.{Coded-set}
use Rattle.atomic_table.specs.Seated.{TableId, table_id_coded}
use Rattle.desk_run.specs.Plays.{SeatState, table_seen, worker_seen, stop_seen}
use Rattle.desk_run.specs.declared.view.View.TheVariants.{Table, Worker, Stop}
use Rattle.desk_run.specs.declared.board.Board.{Board}

abbrev pub board_name : Board → TableId
board_name board = board.table.shared.table_id

-- two names of boards are equal in one way at most
pub same_board : (a b : TableId) → IsProp (a ≡ b)
same_board = Coded-set table_id_coded

-- a worker that holds nothing
abbrev pub Idles : SeatState → Type 0
Idles m = (m.0 ≡ Worker (worker_seen m.0)) × ((worker_seen m.0).held ≡ None) × (m.1 ≡ [])

-- the seat that stops the workers
abbrev pub IsStopSeat : SeatState → Type 0
IsStopSeat m = m.0 ≡ Stop (stop_seen m.0)

-- n places from p on
abbrev pub places_from : ℕ → ℕ → List ℕ
places_from p zero = []
places_from p (suc n) = places_from p n ++ (p + n) ∷ []

-- the empty contents that a table carries: the place that became vacant last comes first
abbrev pub carried_by : ℕ → List ℕ → List (ℕ × Content)
carried_by base [] = []
carried_by base (k ∷ ks) = carried_by base ks ++ (base + k, Empty) ∷ []

-- A table's seat: its view lists the states of the table's own places
pub record Sits (m : SeatState) (base : ℕ) (lane : LaneState) (states : List PlaceState) (vacant : List ℕ) : Type 0 where
  pub is_table : m.0 ≡ Table (table_seen m.0)
  pub number : (table_seen m.0).number ≡ lane.table
  pub base_is : (table_seen m.0).base ≡ base
  pub states_are : (table_seen m.0).states ≡ states
  pub offers : (table_seen m.0).offers ≡ count_accepted lane
  pub carried : m.1 ≡ carried_by base vacant

-- a table's seat on a board: the board has its places, and it sits there with them
pub record IsTableSeat (board : TableId) (m : SeatState) (base : ℕ) (lane : LaneState) (states : List PlaceState) (vacant : List ℕ) : Type 0 where
  pub near : base + length states ≤ board.slots
  pub few : board.slots < 4096
  pub sits : Sits m base lane states vacant

-- the places out among the first n
abbrev pub place_if_out : ℕ → PlaceState → List ℕ
place_if_out p Fresh = []
place_if_out p Vacant = []
place_if_out p (Out x job) = p ∷ []

abbrev pub out_places : ℕ → List PlaceState → ℕ → List ℕ
out_places base states zero = []
out_places base states (suc n) = out_places base states n ++ place_if_out (base + n) (slice_index_or states n Fresh)

-- The lane takes a piece that was fetched: where the ticket was withdrawn it answers so and stays as it
-- was, and else it accepts the piece.
abbrev pub Receives : LaneState → Ticketed → LaneState → Type 0
Receives lane piece next = MatchBool (lane_withdrew lane piece.ticket.seq)
    ((next ≡ lane) × IsStep lane (Arrive piece) (reply.Arrived arrived.Withdrawn) next)
    (TakesInPiece lane piece next × IsStep lane (Arrive piece) (reply.Arrived arrived.Accepted) next)

-- Each of the pieces was that of a place that was out. The lane took it, and its place is vacant.
abbrev pub AreFetched : List Ticketed → LaneState → List PlaceState → LaneState → List PlaceState → Type 0
AreFetched [] lane states new_lane new_states = (new_lane ≡ lane) × (new_states ≡ states)
AreFetched (piece ∷ pieces) lane states new_lane new_states =
    (k : ℕ) × (next : LaneState) × (get_elem? states k ≡ ghost_option.some (Out piece.ticket piece.job))
    × Receives lane piece next
    × AreFetched pieces next (slice_set states k Vacant) new_lane new_states

-- so many pieces were fetched
abbrev pub Collects : ℕ → LaneState → List PlaceState → LaneState → List PlaceState → Type 0
Collects n lane states new_lane new_states = (pieces : List Ticketed) × (length pieces ≡ n) × AreFetched pieces lane states new_lane new_states
