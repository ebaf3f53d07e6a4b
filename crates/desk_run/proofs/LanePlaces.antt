-- A submission, an arrival and a taking keep the places and the lane of a table in agreement.
use Rattle.std.proofs.Common.{◌≡◌, ℕ, zero, suc, ◌+◌, ◌-◌, ◌<◌, ◌≤◌, ◌≢◌, Bool, true, false, List, [], ◌∷◌, ◌++◌, length, set, drop, length-drop, sym, refl, ap, ◌∙◌, subst, arith, eqb, eq-eqb, ◌&&◌, ◌⊎◌, inl, inr, ⊎_elim, length-set, length-append, Some}
use mathlib.Core.Option.{some, some-injective, some-ne-none}
use lib.ListN.{get_elem?}
use Rattle.atomic_table.proofs.Lists.{at_set, set_here, set_else, at_longer, at_last}
use Rattle.std.proofs.lemmas.Bool.{false≢true}
use Rattle.desk_core.specs.LaneState.{LaneState, with_job, is_among, TakesInPiece, PassesWithdrawn, TakesBack, Awaits}
use Rattle.desk_core.specs.GivesFirst.{GivesFirst}
use Rattle.desk_core.specs.declared.taken.Taken.{Taken}
use Rattle.desk_core.specs.declared.taken.Taken.TheVariants as taken
use Rattle.desk_core.specs.Step.{IsStep}
use Rattle.desk_core.specs.declared.arrived.Arrived.{Arrived}
use Rattle.desk_core.specs.declared.arrived.Arrived.TheVariants as arrived
use Rattle.desk_core.specs.declared.event.Event.TheVariants.{Arrive}
use Rattle.desk_core.specs.declared.reply.Reply.TheVariants as reply
use Rattle.desk_run.specs.Sitting.{Receives}
use mathlib.Core.Logic.{dite}
use native.Mathlib.Decide.{dec_le}
use Rattle.std.specs.Prelude.{slice_get, MatchBool, ◌||◌, Result, Ok, Err, OnErr}
use Rattle.std.proofs.lemmas.List.Sums.{sum_by-cons}
use Rattle.std.proofs.lemmas.Option.{same_Some}
use Rattle.desk_run.specs.Counts.{one_if, same_ticket}
use Rattle.desk_run.specs.LanePlaces.{Agrees, IsPending, ticket, count_accepted, lane_withdrew, outs, has_ticket_out, is_out, times_out}
use Rattle.desk_core.specs.declared.ticket.Ticket.{Ticket}
use Rattle.riichi_hand.specs.declared.job.Job.{Job}
use Rattle.desk_core.specs.Ticketed.{Ticketed}
use Rattle.desk_run.specs.declared.place_state.PlaceState.{PlaceState}
use Rattle.desk_run.specs.declared.place_state.PlaceState.TheVariants.{Fresh, Vacant, Out}
use Rattle.desk_run.proofs.Lists.{sum_by-changed, terms_le, term_le, one, out_ticket, out_job, tested, ticket_is}
use Rattle.desk_run.proofs.Moves.{there_is}

-- 1 where a ticket is out at the place
abbrev pub out_or_not : PlaceState → ℕ
out_or_not state = one_if (has_ticket_out state)

pub at_push : {A : Type 0} (l : List A) (a b : A) (j : ℕ) → get_elem? (l ++ a ∷ []) j ≡ some b → ((j < length l) × (get_elem? l j ≡ some b)) ⊎ ((j ≡ length l) × (a ≡ b))
at_push [] a b zero e = inr (refl, some-injective a b e)
at_push [] a b (suc j) e = absurd (some-ne-none b (sym e))
at_push (x ∷ xs) a b zero e = inl (omega arith, e)
at_push (x ∷ xs) a b (suc j) e = ⊎_elim (λ t. let h = t.0 in inl (omega arith, t.1)) (λ t. let h = t.0 in inr (omega arith, t.1)) (at_push xs a b j e)

same_self : (x : Ticket) → same_ticket x x ≡ true
same_self x = ap (λ (u : Bool). u && eqb x.seq x.seq) (eq-eqb x.table x.table refl) ∙ ap (λ (u : Bool). true && u) (eq-eqb x.seq x.seq refl)

not_out : (x : Ticket) (state : PlaceState) → ((y : Ticket) (job : Job) → state ≡ Out y job → x ≢ y) → one_if (is_out x state) ≡ 0
not_out x Fresh h = refl
not_out x Vacant h = refl
not_out x (Out y job) h = ⊎_elim (λ (t : (x ≡ y) × (one_if (same_ticket x y) ≤ 1)). absurd (h y job refl t.0)) (λ t. t) (tested x y)

none_out : (x : Ticket) (states : List PlaceState) → ((k : ℕ) (y : Ticket) (job : Job) → get_elem? states k ≡ some (Out y job) → x ≢ y) → times_out x states ≡ 0
none_out x [] h = refl
none_out x (state ∷ states) h = let a = not_out x state (λ y job e. h 0 y job (ap (λ (l : PlaceState). some l) e)) in let b = none_out x states (λ k y job e. h (suc k) y job e) in omega (arith, sum_by-cons (λ s. one_if (is_out x s)) state states)

-- a ticket is out at one place
out_once : (x : Ticket) (states : List PlaceState) (j k : ℕ) (a b : Job) → times_out x states ≡ 1 → get_elem? states j ≡ some (Out x a) → get_elem? states k ≡ some (Out x b) → j ≢ k → ⊥
out_once x states j k a b e p q ne = let t = terms_le (λ state. one_if (is_out x state)) states k j (Out x b) (Out x a) ne q p in let s = one (same_ticket x x) (same_self x) in omega arith

-- std's reading of a list and mathlib's
pub some_at : {A : Type 0} (l : List A) (i : ℕ) (a : A) → slice_get l i ≡ Some a → get_elem? l i ≡ some a
some_at [] i a e = cc
some_at (x ∷ xs) zero a e = ap some (same_Some x a e)
some_at (x ∷ xs) (suc i) a e = some_at xs i a e

pub at_some : {A : Type 0} (l : List A) (i : ℕ) (a : A) → get_elem? l i ≡ some a → slice_get l i ≡ Some a
at_some {A} [] i a e = absurd (some-ne-none a (sym e))
at_some {A} (x ∷ xs) zero a e = ap (λ (y : A). Some y) (some-injective x a e)
at_some {A} (x ∷ xs) (suc i) a e = at_some xs i a e

waits_or_not : (job a : Job) → ◌≡◌ {A = Job × Bool} (job, true) (a, false) → ⊥
waits_or_not job a e = false≢true (sym (ap (λ (z : Job × Bool). z.1) e))

-- where a ticket that is out stands in the window
pub place_of : (lane : LaneState) (x : Ticket) (job : Job) → IsPending lane x job → (place : ℕ) × (lane.next + place ≡ x.seq) × (get_elem? lane.window place ≡ some (job, false))
place_of lane x job p = (x.seq - lane.next, (let h = p.1 in omega arith), p.2)

is_pending : (lane : LaneState) (x : Ticket) (job : Job) (place : ℕ) → x.table ≡ lane.table → lane.next + place ≡ x.seq → get_elem? lane.window place ≡ some (job, false) → IsPending lane x job
is_pending lane x job place t e at = (t, omega arith, (let same : place ≡ x.seq - lane.next = omega arith in subst (λ (n : ℕ). get_elem? lane.window n ≡ some (job, false)) same at))

pub submitted : (lane : LaneState) (k : ℕ) (states : List PlaceState) (vacant : List ℕ) (job : Job) → Agrees lane states (vacant ++ k ∷ [])
    → Agrees (with_job lane job) (set states k (Out (ticket lane.table (count_accepted lane)) job)) vacant
submitted lane k states vacant job b =
    let x : Ticket = ticket lane.table (count_accepted lane) in let window : List (Job × Bool) = lane.window in let next : ℕ = lane.next in
    let mine : get_elem? states k ≡ some Vacant = b.vacant_are (length vacant) k (at_last vacant k (length vacant) refl) in
    let near = there_is states k Vacant mine in
    let new : (y : Ticket) (j : ℕ) (a : Job) → get_elem? states j ≡ some (Out y a) → x ≢ y = λ y j a e same. let below = (b.own j y a e).1 in
    let s : next + length window ≡ y.seq = ap (λ (z : Ticket). z.seq) same in omega arith in
    record {
      vacant_are = λ i j e. let h = there_is vacant i j e in
          set_else states k j (Out x job) (λ same. let c = b.once i (length vacant) k (at_longer vacant (k ∷ []) i k (subst (λ (z : ℕ). get_elem? vacant i ≡ some z) same e)) (at_last vacant k (length vacant) refl) in omega arith) ∙ b.vacant_are i j (at_longer vacant (k ∷ []) i j e);
      once = λ i j l e d. b.once i j l (at_longer vacant (k ∷ []) i l e) (at_longer vacant (k ∷ []) j l d);
      counted = let c = b.counted in let t = sum_by-changed out_or_not states k Vacant (Out x job) mine in omega (arith, length-append vacant (k ∷ []), length-set states k (Out x job));
      own = λ j y a e. ⊎_elim
          (λ (t : (j ≡ k) × (Out x job ≡ Out y a)). let s = out_ticket x y job a t.1 in
          (sym (ap (λ (z : Ticket). z.table) s), (let d : next + length window ≡ y.seq = ap (λ (z : Ticket). z.seq) s in omega (arith, length-append window ((job, false) ∷ [])))))
          (λ (t : (j ≢ k) × (get_elem? states j ≡ some (Out y a))). let d = b.own j y a t.1 in (d.0, (let l = d.1 in omega (arith, length-append window ((job, false) ∷ [])))))
          (at_set states k j (Out x job) (Out y a) e);
      pending = λ j y a e out. ⊎_elim
          (λ (t : (j ≡ k) × (Out x job ≡ Out y a)). let s = out_ticket x y job a t.1 in let d = out_job x y job a t.1 in
          subst (λ (z : Ticket). IsPending (with_job lane job) z a) s (subst (λ (z : Job). IsPending (with_job lane job) x z) d (is_pending (with_job lane job) x job (length window) refl refl (at_last window (job, false) (length window) refl))))
          (λ (t : (j ≢ k) × (get_elem? states j ≡ some (Out y a))). let d = b.pending j y a t.1 out in let p = place_of lane y a d in is_pending (with_job lane job) y a p.0 d.0 p.1 (at_longer window ((job, false) ∷ []) p.0 (a, false) p.2))
          (at_set states k j (Out x job) (Out y a) e);
      listed = λ i a e out. let y : Ticket = ticket lane.table (next + i) in let t = sum_by-changed (λ state. one_if (is_out y state)) states k Vacant (Out x job) mine in ⊎_elim
          (λ (h : (i < length window) × (get_elem? window i ≡ some (a, false))). let c = b.listed i a h.1 out in
          ⊎_elim (λ (s : (y ≡ x) × (one_if (same_ticket y x) ≤ 1)). let d : next + i ≡ next + length window = ap (λ (z : Ticket). z.seq) s.0 in let g = h.0 in absurd (omega arith)) (λ s. omega arith) (tested y x))
          (λ (h : (i ≡ length window) × (◌≡◌ {A = Job × Bool} (job, false) (a, false))). let same : y ≡ x = ap (λ (n : ℕ). ticket lane.table (next + n)) h.0 in
          let z : times_out y states ≡ 0 = ap (λ (u : Ticket). times_out u states) same ∙ none_out x states (λ j u c d. new u j c d) in
          let s : one_if (same_ticket y x) ≡ 1 = ap (λ (u : Ticket). one_if (same_ticket u x)) same ∙ one (same_ticket x x) (same_self x) in omega arith)
          (at_push window (job, false) (a, false) i e);
    }

-- the places in the list are vacant, and each stands in it once
pub record AreVacant (states : List PlaceState) (vacant : List ℕ) : Type 0 where
  pub vacant_are : (i k : ℕ) → get_elem? vacant i ≡ some k → get_elem? states k ≡ some Vacant
  pub once : (i j k : ℕ) → get_elem? vacant i ≡ some k → get_elem? vacant j ≡ some k → i ≡ j

-- one more place is vacant
pub one_vacant : (k : ℕ) (states : List PlaceState) (vacant : List ℕ) (was : PlaceState) → get_elem? states k ≡ some was → was ≢ Vacant → AreVacant states vacant → AreVacant (set states k Vacant) (vacant ++ k ∷ [])
one_vacant k states vacant was at other b =
    let not_vacant : get_elem? states k ≡ some Vacant → ⊥ = λ e. other (some-injective was Vacant (sym at ∙ e)) in
    record {
      vacant_are = λ i j e. ⊎_elim
          (λ (h : (i < length vacant) × (get_elem? vacant i ≡ some j)). let c = b.vacant_are i j h.1 in set_else states k j Vacant (λ same. not_vacant (ap (λ (n : ℕ). get_elem? states n) (sym same) ∙ c)) ∙ c)
          (λ (h : (i ≡ length vacant) × (k ≡ j)). subst (λ (n : ℕ). get_elem? (set states k Vacant) n ≡ some Vacant) h.1 (set_here states k Vacant (there_is states k was at)))
          (at_push vacant k j i e);
      once = λ i j l e d. ⊎_elim
          (λ (h : (i < length vacant) × (get_elem? vacant i ≡ some l)). ⊎_elim (λ (g : (j < length vacant) × (get_elem? vacant j ≡ some l)). b.once i j l h.1 g.1)
          (λ (g : (j ≡ length vacant) × (k ≡ l)). absurd (not_vacant (ap (λ (n : ℕ). get_elem? states n) g.1 ∙ b.vacant_are i l h.1))) (at_push vacant k l j d))
          (λ (h : (i ≡ length vacant) × (k ≡ l)). ⊎_elim (λ (g : (j < length vacant) × (get_elem? vacant j ≡ some l)). absurd (not_vacant (ap (λ (n : ℕ). get_elem? states n) h.1 ∙ b.vacant_are j l g.1)))
          (λ (g : (j ≡ length vacant) × (k ≡ l)). h.0 ∙ sym g.0) (at_push vacant k l j d))
          (at_push vacant k l i e);
    }

-- a place that was out is vacant again
module _ (lane : LaneState) (k : ℕ) (states : List PlaceState) (vacant : List ℕ) (x : Ticket) (job : Job) (out : get_elem? states k ≡ some (Out x job)) (b : Agrees lane states vacant) where
  vacant_again : AreVacant (set states k Vacant) (vacant ++ k ∷ [])
  vacant_again = one_vacant k states vacant (Out x job) out (λ e. cc) (record { vacant_are = b.vacant_are; once = b.once })

  counted_again : length (vacant ++ k ∷ []) + outs (set states k Vacant) ≡ length (set states k Vacant)
  counted_again = let c = b.counted in let t = sum_by-changed out_or_not states k (Out x job) Vacant out in omega (arith, length-append vacant (k ∷ []), length-set states k Vacant)

-- the lane accepts the piece of a ticket that was not withdrawn
accepted : (lane : LaneState) (k place : ℕ) (states : List PlaceState) (vacant : List ℕ) (piece : Ticketed) → lane.next + place ≡ piece.ticket.seq → get_elem? lane.window place ≡ some (piece.job, false)
    → lane_withdrew lane piece.ticket.seq ≡ false → get_elem? states k ≡ some (Out piece.ticket piece.job) → Agrees lane states vacant
    → Agrees (record lane { window = set lane.window place (piece.job, true) }) (set states k Vacant) (vacant ++ k ∷ [])
accepted lane k place states vacant piece seq waits live out b =
    let x : Ticket = piece.ticket in let window : List (Job × Bool) = lane.window in let next : ℕ = lane.next in let mine = b.own k x piece.job out in
    let m = vacant_again lane k states vacant x piece.job out b in
    let is_x : x ≡ ticket lane.table (next + place) = ticket_is x (ticket lane.table (next + place)) mine.0 (sym seq) in
    let single : times_out x states ≡ 1 = ap (λ (z : Ticket). times_out z states) is_x ∙ b.listed place piece.job waits (ap (lane_withdrew lane) seq ∙ live) in
    record {
      vacant_are = m.vacant_are;
      once = m.once;
      counted = counted_again lane k states vacant x piece.job out b;
      own = λ j y a e. ⊎_elim
          (λ (t : (j ≡ k) × (Vacant ≡ Out y a)). let d = t.1 in cc)
          (λ (t : (j ≢ k) × (get_elem? states j ≡ some (Out y a))). let d = b.own j y a t.1 in (d.0, (let l = d.1 in omega (arith, length-set window place (piece.job, true)))))
          (at_set states k j Vacant (Out y a) e);
      pending = λ j y a e out_still. ⊎_elim
          (λ (t : (j ≡ k) × (Vacant ≡ Out y a)). let d = t.1 in cc)
          (λ (t : (j ≢ k) × (get_elem? states j ≡ some (Out y a))). let d = b.pending j y a t.1 out_still in let p = place_of lane y a d in
          is_pending (record lane { window = set window place (piece.job, true) }) y a p.0 d.0 p.1 (set_else window place p.0 (piece.job, true) (λ same. let s : y ≡ x = ticket_is y x (d.0 ∙ sym mine.0) (sym p.1 ∙ (ap (λ (n : ℕ). next + n) same ∙ seq)) in
          out_once x states j k a piece.job single (subst (λ (z : Ticket). get_elem? states j ≡ some (Out z a)) s t.1) out t.0) ∙ p.2))
          (at_set states k j Vacant (Out y a) e);
      listed = λ i a e out_still. let y : Ticket = ticket lane.table (next + i) in let t = sum_by-changed (λ state. one_if (is_out y state)) states k (Out x piece.job) Vacant out in ⊎_elim
          (λ (h : (i ≡ place) × (◌≡◌ {A = Job × Bool} (piece.job, true) (a, false))). absurd (waits_or_not piece.job a h.1))
          (λ (h : (i ≢ place) × (get_elem? window i ≡ some (a, false))). let c = b.listed i a h.1 out_still in
          ⊎_elim (λ (s : (y ≡ x) × (one_if (same_ticket y x) ≤ 1)). absurd (h.0 (let d : next + i ≡ x.seq = ap (λ (z : Ticket). z.seq) s.0 in omega arith))) (λ s. omega arith) (tested y x))
          (at_set window place i (piece.job, true) (a, false) e);
    }

-- the piece of a withdrawn ticket was fetched
left : (lane : LaneState) (k : ℕ) (states : List PlaceState) (vacant : List ℕ) (x : Ticket) (job : Job) → lane_withdrew lane x.seq ≡ true → get_elem? states k ≡ some (Out x job) → Agrees lane states vacant
    → Agrees lane (set states k Vacant) (vacant ++ k ∷ [])
left lane k states vacant x job gone out b = let m = vacant_again lane k states vacant x job out b in record {
  vacant_are = m.vacant_are;
  once = m.once;
  counted = counted_again lane k states vacant x job out b;
  own = λ j y a e. ⊎_elim (λ (t : (j ≡ k) × (Vacant ≡ Out y a)). let d = t.1 in cc) (λ (t : (j ≢ k) × (get_elem? states j ≡ some (Out y a))). b.own j y a t.1) (at_set states k j Vacant (Out y a) e);
  pending = λ j y a e still. ⊎_elim (λ (t : (j ≡ k) × (Vacant ≡ Out y a)). let d = t.1 in cc) (λ (t : (j ≢ k) × (get_elem? states j ≡ some (Out y a))). b.pending j y a t.1 still) (at_set states k j Vacant (Out y a) e);
  listed = λ i a e still. let y : Ticket = ticket lane.table (lane.next + i) in let t = sum_by-changed (λ state. one_if (is_out y state)) states k (Out x job) Vacant out in let c = b.listed i a e still in
      ⊎_elim (λ (s : (y ≡ x) × (one_if (same_ticket y x) ≤ 1)). absurd (false≢true (sym still ∙ (ap (λ (z : Ticket). lane_withdrew lane z.seq) s.0 ∙ gone)))) (λ s. omega arith) (tested y x);
}

later : (next s i : ℕ) (job a : Job) (rest : List (Job × Bool)) → next + i ≡ s → get_elem? ((job, true) ∷ rest) i ≡ some (a, false)
    → (j : ℕ) × ((next + 1) + j ≡ s) × (get_elem? rest j ≡ some (a, false))
later next s zero job a rest e at = absurd (waits_or_not job a (some-injective (job, true) (a, false) at))
later next s (suc i) job a rest e at = (i, omega arith, at)

given : (lane : LaneState) (states : List PlaceState) (vacant : List ℕ) (job : Job) (rest : List (Job × Bool)) → lane.window ≡ (job, true) ∷ rest → Agrees lane states vacant
    → Agrees (record lane { next = lane.next + 1; window = rest }) states vacant
given lane states vacant job rest first b = record {
  vacant_are = b.vacant_are;
  once = b.once;
  counted = b.counted;
  own = λ k x a e. let d = b.own k x a e in (d.0, (let l = d.1 in let n = ap (λ (z : List (Job × Bool)). length z) first in omega arith));
  pending = λ k x a e still. let d = b.pending k x a e still in let p = place_of lane x a d in
      let q = later lane.next x.seq p.0 job a rest p.1 (ap (λ (l : List (Job × Bool)). get_elem? l p.0) (sym first) ∙ p.2) in is_pending (record lane { next = lane.next + 1; window = rest }) x a q.0 d.0 q.1 q.2;
  listed = λ i a e still. let n : ℕ = lane.next in let same : (n + 1) + i ≡ n + suc i = omega arith in
      ap (λ (m : ℕ). times_out (ticket lane.table m) states) same ∙ b.listed (suc i) a (ap (λ (l : List (Job × Bool)). get_elem? l (suc i)) first ∙ e) (ap (lane_withdrew lane) (sym same) ∙ still);
}

at_drop : {A : Type 0} (n : ℕ) (l : List A) (i : ℕ) → get_elem? (drop n l) i ≡ get_elem? l (n + i)
at_drop {A} zero l i = let e : i ≡ 0 + i = omega arith in ap (λ (j : ℕ). get_elem? l j) e
at_drop {A} (suc n) [] i = refl
at_drop {A} (suc n) (x ∷ xs) i = let e : suc (n + i) ≡ suc n + i = omega arith in at_drop n xs i ∙ ap (λ (j : ℕ). get_elem? (x ∷ xs) j) e

passed : (lane new : LaneState) (states : List PlaceState) (vacant : List ℕ) → PassesWithdrawn lane new → Agrees lane states vacant → Agrees new states vacant
passed lane new states vacant p b = let c : ℕ = p.count in let n : ℕ = lane.next in let w : List (Job × Bool) = lane.window in let within = p.within in
    subst (λ (l : LaneState). Agrees l states vacant) (sym p.new_is) (record {
      vacant_are = b.vacant_are;
      once = b.once;
      counted = b.counted;
      own = λ k x a e. let d = b.own k x a e in (d.0, (let l = d.1 in omega (arith, length-drop c w)));
      pending = λ k x a e still. let d = b.pending k x a e still in let q = place_of lane x a d in dite (dec_le c q.0)
          (λ h. let j : ℕ = q.0 - c in let at : c + j ≡ q.0 = omega arith in
          is_pending (record lane { next = n + c; window = drop c w }) x a j d.0 (let s = q.1 in omega arith) (at_drop c w j ∙ ap (λ (i : ℕ). get_elem? w i) at ∙ q.2))
          (λ h. absurd (false≢true (sym still ∙ ap (lane_withdrew lane) (sym q.1) ∙ p.each q.0 (omega arith))));
      listed = λ i a e still. let same : (n + c) + i ≡ n + (c + i) = omega arith in
          ap (λ (m : ℕ). times_out (ticket lane.table m) states) same ∙ b.listed (c + i) a (sym (at_drop c w i) ∙ e) (ap (lane_withdrew lane) (sym same) ∙ still);
    })

or_false : (a b : Bool) → (a || b) ≡ false → a ≡ false
or_false false b e = refl
or_false true b e = e

pub taken_back_as : (lane new : LaneState) (states : List PlaceState) (vacant : List ℕ) (seq : ℕ) → TakesBack lane seq new → Agrees lane states vacant → Agrees new states vacant
taken_back_as lane new states vacant seq t b = let before : (i : ℕ) → is_among t.numbers i ≡ false → lane_withdrew lane i ≡ false = λ i e. or_false (lane_withdrew lane i) (eqb i seq) (sym (t.added i) ∙ e) in
    passed (record lane { withdrawn = t.numbers }) new states vacant t.passes (record {
      vacant_are = b.vacant_are;
      once = b.once;
      counted = b.counted;
      own = b.own;
      pending = λ k x a e still. b.pending k x a e (before x.seq still);
      listed = λ i a e still. b.listed i a e (before (lane.next + i) still);
    })

pub submitted_as : (lane new : LaneState) (k : ℕ) (states : List PlaceState) (ks ls : List ℕ) (x : Ticket) (job : Job) → Agrees lane states ks → ks ≡ ls ++ k ∷ [] → x ≡ ticket lane.table (count_accepted lane) → new ≡ with_job lane job
    → Agrees new (set states k (Out x job)) ls
submitted_as lane new k states ks ls x job b e d f = subst (λ (l : LaneState). Agrees l (set states k (Out x job)) ls) (sym f)
    (subst (λ (y : Ticket). Agrees (with_job lane job) (set states k (Out y job)) ls) (sym d) (submitted lane k states ls job (subst (λ (l : List ℕ). Agrees lane states l) e b)))

received_either : (gone : Bool) (lane new : LaneState) (k : ℕ) (states : List PlaceState) (ks : List ℕ) (piece : Ticketed) → lane_withdrew lane piece.ticket.seq ≡ gone → get_elem? states k ≡ some (Out piece.ticket piece.job) → Agrees lane states ks
    → MatchBool gone ((new ≡ lane) × IsStep lane (Arrive piece) (reply.Arrived arrived.Withdrawn) new) (TakesInPiece lane piece new × IsStep lane (Arrive piece) (reply.Arrived arrived.Accepted) new)
    → Agrees new (set states k Vacant) (ks ++ k ∷ [])
received_either true lane new k states ks piece gone out b r = subst (λ (l : LaneState). Agrees l (set states k Vacant) (ks ++ k ∷ [])) (sym r.0) (left lane k states ks piece.ticket piece.job gone out b)
received_either false lane new k states ks piece live out b r = let t = r.0 in subst (λ (l : LaneState). Agrees l (set states k Vacant) (ks ++ k ∷ [])) (sym t.3)
    (accepted lane k t.0 states ks piece t.1 (some_at lane.window t.0 (piece.job, false) t.2) live out b)

pub received_as : (lane new : LaneState) (k : ℕ) (states : List PlaceState) (ks ls : List ℕ) (piece : Ticketed) → get_elem? states k ≡ some (Out piece.ticket piece.job) → Agrees lane states ks → Receives lane piece new → ls ≡ ks ++ k ∷ []
    → Agrees new (set states k Vacant) ls
received_as lane new k states ks ls piece out b r e = subst (λ (l : List ℕ). Agrees new (set states k Vacant) l) (sym e) (received_either (lane_withdrew lane piece.ticket.seq) lane new k states ks piece refl out b r)

received_offers_either : (gone : Bool) (lane new : LaneState) (piece : Ticketed)
    → MatchBool gone ((new ≡ lane) × IsStep lane (Arrive piece) (reply.Arrived arrived.Withdrawn) new) (TakesInPiece lane piece new × IsStep lane (Arrive piece) (reply.Arrived arrived.Accepted) new)
    → (new.table ≡ lane.table) × (count_accepted new ≡ count_accepted lane)
received_offers_either true lane new piece r = (ap (λ (z : LaneState). z.table) r.0, ap count_accepted r.0)
received_offers_either false lane new piece r = let t = r.0 in (ap (λ (z : LaneState). z.table) t.3, ap count_accepted t.3 ∙ ap (λ (n : ℕ). lane.next + n) (length-set lane.window t.0 (piece.job, true)))

pub received_offers : (lane new : LaneState) (piece : Ticketed) → Receives lane piece new → (new.table ≡ lane.table) × (count_accepted new ≡ count_accepted lane)
received_offers lane new piece r = received_offers_either (lane_withdrew lane piece.ticket.seq) lane new piece r

pub withdrawn_as : {E : Type 0} (lane new : LaneState) (states : List PlaceState) (vacant : List ℕ) (seq : ℕ) (result : Result Bool E) → Agrees lane states vacant
    → (result ≡ Ok true → TakesBack lane seq new) → (result ≡ Ok false → new ≡ lane) → OnErr result (new ≡ lane) → Agrees new states vacant
withdrawn_as lane new states vacant seq (Ok true) b done not err = taken_back_as lane new states vacant seq (done refl) b
withdrawn_as lane new states vacant seq (Ok false) b done not err = subst (λ (l : LaneState). Agrees l states vacant) (sym (not refl)) b
withdrawn_as lane new states vacant seq (Err refused) b done not err = subst (λ (l : LaneState). Agrees l states vacant) (sym err) b

-- the piece that the lane waits for
pending_awaited : (lane : LaneState) (piece : Ticketed) → lane_withdrew lane piece.ticket.seq ≡ false → IsPending lane piece.ticket piece.job → Awaits lane piece
pending_awaited lane piece live p = let q = place_of lane piece.ticket piece.job p in (p.0, live, (q.0, q.1, at_some lane.window q.0 (piece.job, false) q.2))

-- what a lane answers to a piece of a ticket that was out
answered : (gone : Bool) (lane new : LaneState) (piece : Ticketed) (result : Arrived) → lane_withdrew lane piece.ticket.seq ≡ gone
    → (lane_withdrew lane piece.ticket.seq ≡ false → IsPending lane piece.ticket piece.job)
    → IsStep lane (Arrive piece) (reply.Arrived result) new → (lane_withdrew lane piece.ticket.seq ≡ true → result ≡ arrived.Withdrawn)
    → (Awaits lane piece → result ≡ arrived.Accepted) → (result ≡ arrived.Accepted → TakesInPiece lane piece new) → (result ≢ arrived.Accepted → new ≡ lane)
    → MatchBool gone ((new ≡ lane) × IsStep lane (Arrive piece) (reply.Arrived arrived.Withdrawn) new) (TakesInPiece lane piece new × IsStep lane (Arrive piece) (reply.Arrived arrived.Accepted) new)
answered true lane new piece result gone pending step withdrawn awaited takes stays = let r : result ≡ arrived.Withdrawn = withdrawn gone in
    (stays (λ (e : result ≡ arrived.Accepted). let d : arrived.Withdrawn ≡ arrived.Accepted = sym r ∙ e in cc), subst (λ (z : Arrived). IsStep lane (Arrive piece) (reply.Arrived z) new) r step)
answered false lane new piece result live pending step withdrawn awaited takes stays = let r : result ≡ arrived.Accepted = awaited (pending_awaited lane piece live (pending live)) in
    (takes r, subst (λ (z : Arrived). IsStep lane (Arrive piece) (reply.Arrived z) new) r step)

pub receives : (lane new : LaneState) (piece : Ticketed) (result : Arrived)
    → (lane_withdrew lane piece.ticket.seq ≡ false → IsPending lane piece.ticket piece.job)
    → IsStep lane (Arrive piece) (reply.Arrived result) new → (lane_withdrew lane piece.ticket.seq ≡ true → result ≡ arrived.Withdrawn)
    → (Awaits lane piece → result ≡ arrived.Accepted) → (result ≡ arrived.Accepted → TakesInPiece lane piece new) → (result ≢ arrived.Accepted → new ≡ lane)
    → Receives lane piece new
receives lane new piece result = answered (lane_withdrew lane piece.ticket.seq) lane new piece result refl

pub given_as : (lane new : LaneState) (states : List PlaceState) (ks : List ℕ) (answer : Taken) → Agrees lane states ks → GivesFirst lane answer new → Agrees new states ks
given_as lane new states ks (taken.Answer seq answer) b g = passed (record lane { next = lane.next + 1; window = g.1 }) new states ks g.5 (given lane states ks g.0 g.1 g.2 b)
given_as lane new states ks taken.Waiting b g = subst (λ (l : LaneState). Agrees l states ks) (sym g.1) b
given_as lane new states ks taken.Finished b g = subst (λ (l : LaneState). Agrees l states ks) (sym g.2) b

-- the place that became vacant last
pub last_vacant : (lane : LaneState) (k : ℕ) (states : List PlaceState) (ks ls : List ℕ) → Agrees lane states ks → ks ≡ ls ++ k ∷ [] → get_elem? states k ≡ some Vacant
last_vacant lane k states ks ls b e = b.vacant_are (length ls) k (subst (λ (l : List ℕ). get_elem? l (length ls) ≡ some k) (sym e) (at_last ls k (length ls) refl))

pub has_room : (lane : LaneState) (k : ℕ) (states : List PlaceState) (ks : List ℕ) (x : Ticket) (job : Job) → Agrees lane states ks → get_elem? states k ≡ some (Out x job) → length ks < length states
has_room lane k states ks x job b e = let a = b.counted in let c = term_le out_or_not states k (Out x job) e in omega arith
