-- What the seats' views say.
use Rattle.std.specs.Prelude.{ℕ, ◌+◌, ◌*◌, ◌==◌, Bool, false, List, [], ◌∷◌, ◌++◌, Option, None, Some, slice_set, replicate, count_by, sum_by}
use Rattle.desk_run.specs.Counts.{times_listed}
use Rattle.desk_core.specs.declared.ticket.Ticket.{Ticket}
use Rattle.riichi_hand.specs.declared.job.Job.{Job}
use Rattle.desk_run.specs.declared.size.BoardSize.{BoardSize}
use Rattle.desk_run.specs.declared.place_state.PlaceState.{PlaceState}
use Rattle.desk_run.specs.declared.place_state.PlaceState.TheVariants.{Fresh, Out}
use Rattle.desk_run.specs.declared.held.Held.{Held}
use Rattle.desk_run.specs.declared.view.TableView.{TableView}
use Rattle.desk_run.specs.declared.view.WorkerView.{WorkerView}
use Rattle.desk_run.specs.declared.view.View.{View}
use Rattle.desk_run.specs.declared.view.View.TheVariants.{Entering, Table, Worker, Stop}

abbrev pub entering : BoardSize → View
entering size = Entering size

abbrev pub has_number : ℕ → View → Bool
has_number n (Entering size) = false
has_number n (Table v) = v.number == n
has_number n (Worker v) = v.number == n
has_number n (Stop v) = v.number == n

abbrev pub is_at : ℕ → Option Held → Bool
is_at p None = false
is_at p (Some held) = held.place == p

-- a worker that holds the place
abbrev pub holds_at : ℕ → View → Bool
holds_at p (Entering size) = false
holds_at p (Table v) = false
holds_at p (Worker v) = is_at p v.held
holds_at p (Stop v) = false

abbrev pub finished_of : View → List Ticket
finished_of (Entering size) = []
finished_of (Table v) = []
finished_of (Worker v) = v.finished
finished_of (Stop v) = []

-- how many views have the number, how many workers hold the place, and how often the ticket was finished
abbrev pub numbered : ℕ → List View → ℕ
numbered n views = count_by (has_number n) views

abbrev pub holders : ℕ → List View → ℕ
holders p views = count_by (holds_at p) views

abbrev pub finishes : Ticket → List View → ℕ
finishes x views = sum_by (λ v. times_listed x (finished_of v)) views

abbrev pub new_table : ℕ → BoardSize → TableView
new_table n size = record { number = n; base = n * size.places; states = replicate size.places Fresh; offers = 0; lost = [] }

abbrev pub new_worker : ℕ → WorkerView
new_worker n = record { number = n; held = None; finished = []; lost = []; looks = 0; knows_stop = false }

abbrev pub with_state : TableView → ℕ → PlaceState → TableView
with_state v k state = record { number = v.number; base = v.base; states = slice_set v.states k state; offers = v.offers; lost = v.lost }

-- one more ticket is out, at the place k
abbrev pub offering : TableView → ℕ → Ticket → Job → TableView
offering v k x job = record { number = v.number; base = v.base; states = slice_set v.states k (Out x job); offers = v.offers + 1; lost = v.lost }

abbrev pub table_lost : TableView → ℕ → TableView
table_lost v p = record { number = v.number; base = v.base; states = v.states; offers = v.offers; lost = v.lost ++ p ∷ [] }

abbrev pub holding : WorkerView → ℕ → Ticket → Job → WorkerView
holding v p x job = record { number = v.number; held = Some (record { place = p; ticket = x; job = job }); finished = v.finished; lost = v.lost; looks = v.looks; knows_stop = v.knows_stop }

abbrev pub worker_lost : WorkerView → ℕ → WorkerView
worker_lost v p = record { number = v.number; held = v.held; finished = v.finished; lost = v.lost ++ p ∷ []; looks = v.looks; knows_stop = v.knows_stop }

abbrev pub having_finished : WorkerView → Ticket → WorkerView
having_finished v x = record { number = v.number; held = None; finished = v.finished ++ x ∷ []; lost = v.lost; looks = v.looks; knows_stop = v.knows_stop }

abbrev pub looking : WorkerView → Bool → WorkerView
looking v stop = record { number = v.number; held = v.held; finished = v.finished; lost = v.lost; looks = v.looks + 1; knows_stop = stop }
