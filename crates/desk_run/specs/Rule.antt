-- The rule of the board. Word 0 is the roll, word 1 the stop, and each place has a word from word 2 on: 0 idle, 1 ready, 2 taken, 3 done.
use Rattle.std.specs.Prelude.{◌≡◌, ℕ, ◌+◌, ◌*◌, ◌<◌, ◌≤◌, true, length, slice_index, List, Some}
use mathlib.Core.Option as ghost_option
use lib.ListN.{get_elem?}
use Rattle.atomic_table.specs.Table.{State}
use Rattle.desk_run.specs.Counts.{one_if}
use Rattle.desk_run.specs.Views.{numbered, holders, finishes}
use Rattle.desk_core.specs.declared.ticket.Ticket.{Ticket}
use Rattle.riichi_hand.specs.declared.job.Job.{Job}
use Rattle.desk_core.specs.Ticketed.{Ticketed}
use Rattle.desk_run.specs.declared.content.Content.{Content}
use Rattle.desk_run.specs.declared.content.Content.TheVariants.{Empty, Offer, Done}
use Rattle.desk_run.specs.declared.size.BoardSize.{BoardSize}
use Rattle.desk_run.specs.declared.place_state.PlaceState.{PlaceState}
use Rattle.desk_run.specs.declared.place_state.PlaceState.TheVariants.{Fresh, Vacant, Out}
use Rattle.desk_run.specs.declared.held.Held.{Held}
use Rattle.desk_run.specs.declared.view.WorkerView.{WorkerView}
use Rattle.desk_run.specs.declared.view.View.{View}
use Rattle.desk_run.specs.declared.view.View.TheVariants.{Entering, Table, Worker, Stop}

abbrev pub count_places : BoardSize → ℕ
count_places size = size.tables * size.places

-- whoever holds the place holds it with this ticket and job
abbrev pub HeldWith : ℕ → Ticket → Job → List View → Type 0
HeldWith p x job views = (i : ℕ) (v : WorkerView) (h : Held) → get_elem? views i ≡ ghost_option.some (Worker v) → v.held ≡ Some h → h.place ≡ p → (h.ticket ≡ x) × (h.job ≡ job)

-- A place by its word, its content where it is at home, what its table's view lists there, and the workers' views
pub data Standing (word : ℕ) (home : ghost_option.Option (ghost_option.Option Content)) (state : PlaceState) (p : ℕ) (views : List View) : Type 0 where
  fresh : word ≡ 0 → home ≡ ghost_option.some (ghost_option.some Empty) → state ≡ Fresh → holders p views ≡ 0 → Standing word home state p views
  vacant : word ≡ 0 → home ≡ ghost_option.some ghost_option.none → state ≡ Vacant → holders p views ≡ 0 → Standing word home state p views
  ready : (x : Ticket) (job : Job) → word ≡ 1 → home ≡ ghost_option.some (ghost_option.some (Offer x job)) → state ≡ Out x job → holders p views ≡ 0 → finishes x views ≡ 0 → Standing word home state p views
  taken : (x : Ticket) (job : Job) → word ≡ 2 → home ≡ ghost_option.some ghost_option.none → state ≡ Out x job → holders p views ≡ 1 → HeldWith p x job views → finishes x views ≡ 0 → Standing word home state p views
  done : (piece : Ticketed) → word ≡ 3 → home ≡ ghost_option.some (ghost_option.some (Done piece)) → state ≡ Out piece.ticket piece.job → holders p views ≡ 0 → Standing word home state p views

-- A seat's number is of its kind, and its view lists what the board has
abbrev pub Seated : BoardSize → (ℕ → PlaceState) → (ℕ → ℕ) → ℕ → View → Type 0
Seated size states offers stop (Entering about) = about ≡ size
Seated size states offers stop (Table v) =
    (v.number < size.tables) × (v.base ≡ v.number * size.places) × (length v.states ≡ size.places)
    × ((k : ℕ) (state : PlaceState) → get_elem? v.states k ≡ ghost_option.some state → states (v.base + k) ≡ state)
    × (v.offers ≡ offers v.number)
Seated size states offers stop (Worker v) = (size.tables ≤ v.number) × (v.number < size.tables + size.workers) × (v.knows_stop ≡ true → stop ≡ 1)
Seated size states offers stop (Stop v) = (v.number ≡ size.tables + size.workers) × (stop ≡ one_if v.knows_stop)

pub record Orderly (size : BoardSize) (s : State Content View) : Type 0 where
  -- what the table of each place lists there, and how many tickets each table has offered
  pub states : ℕ → PlaceState
  pub offers : ℕ → ℕ
  pub sized : length s.words ≡ 2 + count_places size
  -- each number below the roll word is one seat's, and no other number is
  pub numbers : (n : ℕ) → (n < slice_index s.words 0 → numbered n s.views ≡ 1) × (slice_index s.words 0 ≤ n → numbered n s.views ≡ 0)
  pub seats : (i : ℕ) (v : View) → get_elem? s.views i ≡ ghost_option.some v → Seated size states offers (slice_index s.words 1) v
  -- of a table that has not entered nothing was taken up or offered
  pub unentered : (t : ℕ) → slice_index s.words 0 ≤ t → (offers t ≡ 0) × ((k : ℕ) → k < size.places → states (t * size.places + k) ≡ Fresh)
  -- numbers that are no table's have offered nothing
  pub strange : (t : ℕ) → size.tables ≤ t → offers t ≡ 0
  pub unstopped : slice_index s.words 0 ≤ size.tables + size.workers → slice_index s.words 1 ≡ 0
  pub places : (p : ℕ) → p < count_places size → Standing (slice_index s.words (2 + p)) (get_elem? s.homes p) (states p) p s.views
  -- the tickets that are out are their tables' own, differ, and are below the number of offers
  pub own : (p : ℕ) (x : Ticket) (job : Job) → p < count_places size → states p ≡ Out x job → (x.table * size.places ≤ p) × (p < x.table * size.places + size.places) × (x.seq < offers x.table)
  pub differ : (p q : ℕ) (x : Ticket) (a b : Job) → p < count_places size → q < count_places size → states p ≡ Out x a → states q ≡ Out x b → p ≡ q
  -- no ticket is finished twice, and each was offered
  pub once : (x : Ticket) → finishes x s.views ≤ 1
  pub offered : (x : Ticket) → offers x.table ≤ x.seq → finishes x s.views ≡ 0
