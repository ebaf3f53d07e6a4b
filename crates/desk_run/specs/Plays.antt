-- What each step says: of the step, the seat before, the number found and the seat after.
use Rattle.std.specs.Prelude.{◌≡◌, ◌≢◌, ℕ, ◌+◌, ◌==◌, true, false, ◌∷◌, Some}
use mathlib.Core.Option as ghost_option
use lib.ListN.{get_elem?}
use Rattle.atomic_table.specs.Table.{Me, Step, rest}
use Rattle.desk_run.specs.Counts.{times_listed}
use Rattle.desk_run.specs.Views.{new_table, new_worker, with_state, offering, table_lost, holding, worker_lost, having_finished, looking}
use Rattle.desk_core.specs.declared.ticket.Ticket.{Ticket}
use Rattle.riichi_hand.specs.declared.job.Job.{Job}
use Rattle.desk_core.specs.Ticketed.{Ticketed}
use Rattle.desk_run.specs.declared.content.Content.{Content}
use Rattle.desk_run.specs.declared.content.Content.TheVariants.{Empty, Offer, Done}
use Rattle.desk_run.specs.declared.size.BoardSize.{BoardSize}
use Rattle.desk_run.specs.declared.place_state.PlaceState.TheVariants.{Vacant, Out}
use Rattle.desk_run.specs.declared.held.Held.{Held}
use Rattle.desk_run.specs.declared.view.TableView.{TableView}
use Rattle.desk_run.specs.declared.view.WorkerView.{WorkerView}
use Rattle.desk_run.specs.declared.view.StopView.{StopView}
use Rattle.desk_run.specs.declared.view.View.{View}
use Rattle.desk_run.specs.declared.view.View.TheVariants.{Entering, Table, Worker, Stop}

abbrev pub SeatState : Type 0
SeatState = Me Content View

abbrev pub Play : Type 1
Play = Step Content → SeatState → ℕ → SeatState → Type 0

abbrev pub no_size : BoardSize
no_size = record { tables = 0; workers = 0; places = 0 }

abbrev pub size_seen : View → BoardSize
size_seen (Entering size) = size
size_seen (Table v) = no_size
size_seen (Worker v) = no_size
size_seen (Stop v) = no_size

abbrev pub table_seen : View → TableView
table_seen (Entering size) = new_table 0 size
table_seen (Table v) = v
table_seen (Worker v) = new_table 0 no_size
table_seen (Stop v) = new_table 0 no_size

abbrev pub worker_seen : View → WorkerView
worker_seen (Entering size) = new_worker 0
worker_seen (Table v) = new_worker 0
worker_seen (Worker v) = v
worker_seen (Stop v) = new_worker 0

abbrev pub stop_seen : View → StopView
stop_seen (Entering size) = record { number = 0; knows_stop = false }
stop_seen (Table v) = record { number = 0; knows_stop = false }
stop_seen (Worker v) = record { number = 0; knows_stop = false }
stop_seen (Stop v) = v

-- a seat that had the number it asked for has this view, and else the one that it had
abbrev pub entered : (ℕ → BoardSize → View) → Play
entered view st m r n = (r ≡ st.first → n ≡ (view r (size_seen m.0), m.1)) × (r ≢ st.first → n ≡ m)

abbrev pub entered_table : Play
entered_table = entered (λ number size. Table (new_table number size))

abbrev pub entered_worker : Play
entered_worker = entered (λ number size. Worker (new_worker number))

abbrev pub entered_stop : Play
entered_stop = entered (λ number size. Stop (record { number = number; knows_stop = false }))

abbrev pub took_up : Play
took_up st m r n = (k : ℕ) → let v = table_seen m.0 in st.word ≡ 2 + (v.base + k) → n ≡ (Table (with_state v k Vacant), (v.base + k, Empty) ∷ m.1)

-- the offer at the front of the seat's slots has gone home
abbrev pub offered : Play
offered st m r n = (k : ℕ) (x : Ticket) (job : Job) → let v = table_seen m.0 in st.word ≡ 2 + (v.base + k) → m.1 ≡ (v.base + k, Offer x job) ∷ rest m.1 → n ≡ (Table (offering v k x job), rest m.1)

-- an offer was found, whose ticket the worker now holds
abbrev pub Claims : SeatState → ℕ → SeatState → Type 0
Claims m p n = (x : Ticket) × (job : Job) × (n ≡ (Worker (holding (worker_seen m.0) p x job), (p, Offer x job) ∷ m.1))

-- the piece of the ticket that the worker holds lies in front, with its job
abbrev pub Judges : SeatState → ℕ → Ticket → SeatState → Type 0
Judges m p x n = (job : Job) × (n ≡ (Worker (holding (worker_seen m.0) p x job), (p, Done (record { ticket = x; job = job })) ∷ m.1))

abbrev pub claimed : Play
claimed st m r n = (p : ℕ) → st.word ≡ 2 + p → (r ≡ st.first → Claims m p n) × (r ≢ st.first → n ≡ (Worker (worker_lost (worker_seen m.0) p), m.1))

-- the same, where a place that was not ready is not noted
abbrev pub tried : Play
tried st m r n = (p : ℕ) → st.word ≡ 2 + p → (r ≡ st.first → Claims m p n) × (r ≢ st.first → n ≡ m)

abbrev pub finished : Play
finished st m r n = (h : Held) → let v = worker_seen m.0 in v.held ≡ Some h → (n ≡ (Worker (having_finished v h.ticket), rest m.1)) × (times_listed h.ticket v.finished ≡ 0)

-- the piece for the ticket that was out at the place, with its job
abbrev pub Fetches : SeatState → ℕ → SeatState → Type 0
Fetches m k n = (piece : Ticketed) × (get_elem? (table_seen m.0).states k ≡ ghost_option.some (Out piece.ticket piece.job)) × (n ≡ (Table (with_state (table_seen m.0) k Vacant), ((table_seen m.0).base + k, Done piece) ∷ m.1))

-- the same, where the table's place k is this place of the board
abbrev pub FetchesAt : SeatState → ℕ → ℕ → SeatState → Type 0
FetchesAt m place k n = Fetches m k n × (place ≡ (table_seen m.0).base + k)

abbrev pub fetched : Play
fetched st m r n = (k : ℕ) → let v = table_seen m.0 in st.word ≡ 2 + (v.base + k) → (r ≡ st.first → Fetches m k n) × (r ≢ st.first → n ≡ (Table (table_lost v (v.base + k)), m.1))

-- a worker that found no offer notes the place, and else nothing has changed
abbrev pub seen_ready : Play
seen_ready st m r n = (p : ℕ) → st.word ≡ 2 + p → (r ≡ 1 → n ≡ m) × (r ≢ 1 → n ≡ (Worker (worker_lost (worker_seen m.0) p), m.1))

-- a table that found no piece notes the place, and else nothing has changed
abbrev pub seen_done : Play
seen_done st m r n = (k : ℕ) → let v = table_seen m.0 in st.word ≡ 2 + (v.base + k) → (r ≡ 3 → n ≡ m) × (r ≢ 3 → n ≡ (Table (table_lost v (v.base + k)), m.1))

abbrev pub stopped : Play
stopped st m r n = n ≡ (Stop (record { number = (stop_seen m.0).number; knows_stop = true }), m.1)

-- once the worker knows of the stop, it finds 1 again
abbrev pub looked : Play
looked st m r n = (n ≡ (Worker (looking (worker_seen m.0) (r == 1)), m.1)) × ((worker_seen m.0).knows_stop ≡ true → r ≡ 1)
