-- The slot that a seat took last.
use Rattle.std.proofs.Common.{◌≡◌, ℕ, ◌+◌, refl, subst, List, ◌∷◌, sym, ap, ◌∙◌, get_or}
use Rattle.atomic_table.specs.Table.{rest}
use Rattle.std.specs.Prelude.{Some}
use Rattle.desk_run.specs.Counts.{times_listed}
use Rattle.desk_run.specs.Plays.{SeatState, Judges, table_seen, worker_seen}
use Rattle.desk_run.specs.Views.{offering, holding, having_finished}
use Rattle.desk_run.specs.declared.held.Held.{Held}
use Rattle.desk_run.specs.declared.view.TableView.{TableView}
use Rattle.desk_run.specs.declared.view.View.TheVariants.{Table, Worker}
use Rattle.desk_core.specs.declared.ticket.Ticket.{Ticket}
use Rattle.riichi_hand.specs.declared.job.Job.{Job}
use Rattle.desk_core.specs.Ticketed.{Ticketed}
use Rattle.desk_run.specs.declared.content.Content.{Content}
use Rattle.desk_run.specs.declared.content.Content.TheVariants.{Empty, Offer, Done}
use Rattle.desk_run.specs.declared.view.View.{View}

pub front_of : (m : SeatState) (v : View) (p : ℕ) (x : Content) (more : List (ℕ × Content)) → m ≡ (v, (p, x) ∷ more) → m.1 ≡ (p, x) ∷ rest m.1
front_of m v p x more e = let d : m.1 ≡ (p, x) ∷ more = ap (λ (n : SeatState). n.1) e in d ∙ ap (λ (l : List (ℕ × Content)). (p, x) ∷ l) (sym (ap rest d))

-- what a seat finds in its slot in front
pub found_in : (m : SeatState) (v : View) (p : ℕ) (x r : Content) (more : List (ℕ × Content)) → m ≡ (v, (p, x) ∷ more) → m.1 ≡ (p, r) ∷ rest m.1 → r ≡ x
found_in m v p x r more e f = let d : m.1 ≡ (p, x) ∷ more = ap (λ (z : SeatState). z.1) e in
    ap (λ (l : List (ℕ × Content)). (get_or l 0 (0, Empty)).1) (sym f ∙ d)

-- what it has once something else lies there
pub left_in : (m : SeatState) (v : View) (p : ℕ) (x y z : Content) (more : List (ℕ × Content)) → m ≡ (v, (p, x) ∷ more) → y ≡ z
    → (let n : SeatState = (m.0, (p, y) ∷ rest m.1) in n) ≡ (v, (p, z) ∷ more)
left_in m v p x y z more e same =
    ap (λ (s : SeatState). let n : SeatState = (s.0, (p, y) ∷ rest s.1) in n) e ∙ ap (λ (c : Content). let n : SeatState = (v, (p, c) ∷ more) in n) same

-- an offer that was judged in place
pub judged_in : (m n : SeatState) (p : ℕ) (x r : Ticket) (job : Job) (left : Content) → n ≡ (Worker (holding (worker_seen m.0) p x job), (p, Offer x job) ∷ m.1) → (r ≡ x) × (left ≡ Done (record { ticket = x; job = job }))
    → Judges m p r (n.0, (p, left) ∷ rest n.1)
judged_in m n p x r job left is then = (
  job,
  left_in n (Worker (holding (worker_seen m.0) p x job)) p (Offer x job) left (Done (record { ticket = x; job = job })) m.1 is then.1
      ∙ ap (λ (y : Ticket). let w : SeatState = (Worker (holding (worker_seen m.0) p y job), (p, Done (record { ticket = y; job = job })) ∷ m.1) in w) (sym then.0),
)

-- what finishing answers, at the seat that was found
pub finished_from : (m n after : SeatState) (p : ℕ) (x : Ticket) → Judges m p x n
    → ((h : Held) → (worker_seen n.0).held ≡ Some h → (after ≡ (Worker (having_finished (worker_seen n.0) h.ticket), rest n.1)) × (times_listed h.ticket (worker_seen n.0).finished ≡ 0))
    → (after ≡ (Worker (having_finished (worker_seen m.0) x), m.1)) × (times_listed x (worker_seen m.0).finished ≡ 0)
finished_from m n after p x judges play =
    let Tells : SeatState → Type 0 = λ s. (h : Held) → (worker_seen s.0).held ≡ Some h → (after ≡ (Worker (having_finished (worker_seen s.0) h.ticket), rest s.1)) × (times_listed h.ticket (worker_seen s.0).finished ≡ 0) in
    let job : Job = judges.0 in
    let told : Tells (Worker (holding (worker_seen m.0) p x job), (p, Done (record { ticket = x; job = job })) ∷ m.1) = subst Tells judges.1 play in told (record { place = p; ticket = x; job = job }) refl

pub done_piece : (a b : Ticketed) → Done a ≡ Done b → a ≡ b
done_piece a b e = cc

pub offer_is : (x y : Ticket) (a b : Job) → Offer x a ≡ Offer y b → (x ≡ y) × (a ≡ b)
offer_is x y a b e = let d : x ≡ y = cc in let f : a ≡ b = cc in (d, f)

-- what an offer answers, at the seat that was found
pub offered_from : (m n : SeatState) (v : TableView) (k p : ℕ) (x : Ticket) (job : Job) (more : List (ℕ × Content)) → m ≡ (Table v, (v.base + k, Offer x job) ∷ more) → p ≡ 2 + (v.base + k)
    → ((i : ℕ) (y : Ticket) (a : Job) → p ≡ 2 + ((table_seen m.0).base + i) → m.1 ≡ ((table_seen m.0).base + i, Offer y a) ∷ rest m.1 → n ≡ (Table (offering (table_seen m.0) i y a), rest m.1))
    → n ≡ (Table (offering v k x job), more)
offered_from m n v k p x job more is word play =
    let Tells : SeatState → Type 0 = λ s. (i : ℕ) (y : Ticket) (a : Job) → p ≡ 2 + ((table_seen s.0).base + i) → s.1 ≡ ((table_seen s.0).base + i, Offer y a) ∷ rest s.1 → n ≡ (Table (offering (table_seen s.0) i y a), rest s.1) in
    let told : Tells (Table v, (v.base + k, Offer x job) ∷ more) = subst Tells is play in told k x job word refl
