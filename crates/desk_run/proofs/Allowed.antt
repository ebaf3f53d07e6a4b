-- What each call of the table asks: the step keeps the rule.
use Rattle.std.proofs.Common.{◌≡◌, ℕ, ◌+◌, ◌<◌, ◌≤◌, ◌≢◌, true, false, List, [], ◌∷◌, ◌++◌, length, get_or, set, sym, refl, ap, ◌∙◌, subst, arith, eqb, eq-eqb, ne_eqb, eqb-true, ◌⊎◌, ⊎_elim, length-set, replicate, map, get_or-set_other, get_or-set_same, None, Some}
use Rattle.std.specs.Prelude.{sum_by}
use Rattle.std.proofs.lemmas.List.Sums.{sum_by_push}
use Rattle.std.proofs.lemmas.List.{length-replicate}
use mathlib.Core.Bool.{false≢true}
use mathlib.Core.Logic.{dite}
use native.Mathlib.Decide.{ℕ_discrete}
use mathlib.Core.Option.{Option, some, none, some-ne-none}
use lib.ListN.{get_elem?}
use prog.Atomic.{either}
use Rattle.atomic_table.specs.Table.{step, Act, keeps, takes, gives, Valid, carried_after, stepped, opening, Allows, Splits}
use Rattle.atomic_table.proofs.Lists.{at_set, set_again, at_snoc, exchanged}
use Rattle.desk_run.specs.Counts.{one_if, same_ticket, times_listed}
use Rattle.desk_run.specs.Views.{entering, has_number, is_at, holds_at, finished_of, numbered, holders, finishes, new_table, new_worker, with_state, offering, table_lost, holding, worker_lost, having_finished, looking}
use Rattle.desk_run.specs.Rule.{count_places, HeldWith, Standing, fresh, vacant, ready, taken, done, Seated, Orderly}
use Rattle.desk_run.specs.Plays.{SeatState, Claims, Fetches, table_seen, worker_seen, stop_seen, entered, entered_table, entered_worker, entered_stop, took_up, offered, claimed, tried, finished, fetched, seen_ready, seen_done, stopped, looked}
use Rattle.desk_core.specs.declared.ticket.Ticket.{Ticket}
use Rattle.riichi_hand.specs.declared.job.Job.{Job}
use Rattle.desk_core.specs.Ticketed.{Ticketed}
use Rattle.desk_run.specs.declared.content.Content.{Content}
use Rattle.desk_run.specs.declared.content.Content.TheVariants.{Empty, Offer, Done}
use Rattle.desk_run.specs.declared.size.BoardSize.{BoardSize}
use Rattle.desk_run.specs.declared.place_state.PlaceState.{PlaceState}
use Rattle.desk_run.specs.declared.place_state.PlaceState.TheVariants.{Fresh, Vacant, Out}
use Rattle.desk_run.specs.declared.held.Held.{Held}
use Rattle.desk_run.specs.declared.view.TableView.{TableView}
use Rattle.desk_run.specs.declared.view.WorkerView.{WorkerView}
use Rattle.desk_run.specs.declared.view.StopView.{StopView}
use Rattle.desk_run.specs.declared.view.View.{View}
use Rattle.desk_run.specs.declared.view.View.TheVariants.{Entering, Table, Worker, Stop}
use Rattle.desk_run.proofs.Moves.{St, board, there_is, table_step, worker_step, at_seat, unmoved, fresh_place, vacant_place, ready_place, taken_place, done_place, holders_same, finishes_same, numbered_same, is_holding, below_roll, apart_numbers}
use Rattle.desk_run.proofs.Lists.{replicate_is, zeros, empties, held_is, two_more, tested, out_ticket, offer_ticket, offer_job, sum_by-changed, term_le, one, within, times_listed-push}

abbrev Goes : (size : BoardSize) → St → ℕ → ℕ → SeatState → (ℕ → SeatState → Type 0) → ℕ → Type 0
Goes size s i id m then k = (w : View) × (a : Act Content) × Valid s.homes m.1 a × Orderly size (stepped s i k id m.1 w a) × then (get_or s.words i 0) (w, carried_after m.1 a)

same_place : (base i k : ℕ) → 2 + (base + k) ≡ 2 + (base + i) → k ≡ i
same_place base i k e = omega arith

-- the place of a table's state, and what the board has there
at_state : (size : BoardSize) (s : St) (o : Orderly size s) (id k : ℕ) (v : TableView) (state : PlaceState) → get_elem? s.views id ≡ some (Table v) → get_elem? v.states k ≡ some state
    → (v.base + k < count_places size) × (o.states (v.base + k) ≡ state)
at_state size s o id k v state me at = let t = o.seats id (Table v) me in let near = there_is v.states k state at in
    (subst (λ (b : ℕ). b + k < count_places size) (sym t.1) (within v.number size.tables size.places k t.0 (omega arith)), t.3 k state at)

pub takes_up : (size : BoardSize) (id k : ℕ) (v : TableView) (carried : List (ℕ × Content)) → get_elem? v.states k ≡ some Fresh
    → Allows (Orderly size) (count_places size) id (Table v, carried) (2 + (v.base + k)) (λ _. 0) (λ _. took_up (step (count_places size) (2 + (v.base + k)) 0 0 none) (Table v, carried) 0)
takes_up size id k v carried at s o wide me _ = let t = at_state size s o id k v Fresh me at in let p : ℕ = v.base + k in
    let f = fresh_place (get_or s.words (2 + p) 0) p (get_elem? s.homes p) (o.states p) s.views t.1 (o.places p t.0) in (
      Table (with_state v k Vacant),
      takes p Empty,
      f.0,
      table_step size s o id k 0 v.offers v none Vacant Fresh me wide at (omega arith)
          (λ free. vacant refl refl refl (holders_same s.views id p (Table v) (Table (with_state v k Vacant)) me refl ∙ free)) f.1 (λ x job l. cc),
      λ i e. ap (λ (r : ℕ). let n : SeatState = (Table (with_state v r Vacant), (v.base + r, Empty) ∷ carried) in n) (same_place v.base i k e),
    )

pub offers : (size : BoardSize) (id k : ℕ) (v : TableView) (x : Ticket) (job : Job) (more : List (ℕ × Content)) → get_elem? v.states k ≡ some Vacant → x.table ≡ v.number → x.seq ≡ v.offers
    → Allows (Orderly size) (count_places size) id (Table v, (v.base + k, Offer x job) ∷ more) (2 + (v.base + k)) (λ _. 1)
    (λ _. offered (step (count_places size) (2 + (v.base + k)) 1 0 none) (Table v, (v.base + k, Offer x job) ∷ more) 1)
offers size id k v x job more at mine next s o wide me _ = let t = at_state size s o id k v Vacant me at in let p : ℕ = v.base + k in
    let u = o.seats id (Table v) me in
    let f = vacant_place (get_or s.words (2 + p) 0) p (get_elem? s.homes p) (o.states p) s.views t.1 (o.places p t.0) in
    let w : View = Table (offering v k x job) in (
      w,
      gives,
      tt,
      table_step size s o id k 1 (v.offers + 1) v (some (Offer x job)) (Out x job) Vacant me wide at (omega arith)
          (λ free. ready x job refl refl refl (holders_same s.views id p (Table v) w me refl ∙ free)
          (finishes_same s.views id x (Table v) w me refl ∙ o.offered x (let a = ap o.offers mine in let b = u.4 in omega arith)))
          f.1
          (λ y j l. let e : x ≡ y = out_ticket x y job j l in let a = ap (λ (z : Ticket). z.table) e in let b = ap (λ (z : Ticket). z.seq) e in (sym a ∙ mine, omega arith, omega arith)),
      λ i y j e d. let h : (v.base + k, Offer x job) ≡ (v.base + i, Offer y j) = ap (λ (l : List (ℕ × Content)). (get_or l 0 (0, Empty))) d in
          let same : Offer x job ≡ Offer y j = ap (λ (z : ℕ × Content). z.1) h in
          let a : x ≡ y = offer_ticket x y job j same in let b : job ≡ j = offer_job x y job j same in
          let c : k ≡ i = same_place v.base i k e in
          subst (λ (z : Ticket). let n : SeatState = (w, more) in n ≡ (Table (offering v i z j), more)) a (subst (λ (z : Job). let n : SeatState = (w, more) in n ≡ (Table (offering v i x z), more)) b
          (ap (λ (r : ℕ). let n : SeatState = (Table (offering v r x job), more) in n) c)),
    )

-- a lost try: no word changes, and the view notes the place
lost_worker : (size : BoardSize) (s : St) (o : Orderly size s) (id p : ℕ) (v : WorkerView) → get_elem? s.views id ≡ some (Worker v) → v.held ≡ None
    → Orderly size (board (set s.words (2 + p) (get_or s.words (2 + p) 0)) s.homes (set s.views id (Worker (worker_lost v p))))
lost_worker size s o id p v me free = unmoved size s o id (2 + p) (Worker v) (Worker (worker_lost v p)) me (λ n. refl) (o.seats id (Worker v) me)
    (λ q. (ap (is_at q) free, ap (is_at q) free)) (λ x. refl)

lost_table : (size : BoardSize) (s : St) (o : Orderly size s) (id i p : ℕ) (v : TableView) → get_elem? s.views id ≡ some (Table v)
    → Orderly size (board (set s.words i (get_or s.words i 0)) s.homes (set s.views id (Table (table_lost v p))))
lost_table size s o id i p v me = unmoved size s o id i (Table v) (Table (table_lost v p)) me (λ n. refl) (o.seats id (Table v) me) (λ q. (refl, refl)) (λ x. refl)

pub fetches : (size : BoardSize) (id k : ℕ) (v : TableView) (carried : List (ℕ × Content)) (state : PlaceState) (said : Option Content) → get_elem? v.states k ≡ some state
    → Allows (Orderly size) (count_places size) id (Table v, carried) (2 + (v.base + k)) (λ n. either (eqb n 3) 0 n)
    (fetched (step (count_places size) (2 + (v.base + k)) 3 0 said) (Table v, carried))
fetches size id k v carried state said at s o wide me _ = let t = at_state size s o id k v state me at in let p : ℕ = v.base + k in let i : ℕ = 2 + p in
    let then : ℕ → SeatState → Type 0 = fetched (step (count_places size) (2 + (v.base + k)) 3 0 said) (Table v, carried) in
    exchanged (get_or s.words i 0) 3 0 (Goes size s i id (Table v, carried) then)
    (λ hit. let f = done_place (get_or s.words (2 + p) 0) p (get_elem? s.homes p) (o.states p) s.views hit (o.places p t.0) in
    let piece : Ticketed = f.0 in
    let listed : get_elem? v.states k ≡ some (Out piece.ticket piece.job) = at ∙ ap (λ (l : PlaceState). some l) (sym t.1 ∙ f.2) in (
      Table (with_state v k Vacant),
      takes p (Done piece),
      f.1,
      table_step size s o id k 0 v.offers v none Vacant state me wide at (omega arith)
          (λ free. vacant refl refl refl (holders_same s.views id p (Table v) (Table (with_state v k Vacant)) me refl ∙ free)) f.3 (λ x job l. cc),
      λ r e. ((λ _. subst (λ (j : ℕ). Fetches (Table v, carried) j (Table (with_state v k Vacant), (v.base + k, Done piece) ∷ carried)) (same_place v.base r k e) (piece, listed, refl)), λ miss. absurd (miss hit)),
    ))
    (λ miss. (
      Table (table_lost v p),
      keeps,
      tt,
      lost_table size s o id i p v me,
      λ r e. ((λ hit. absurd (miss hit)), λ _. ap (λ (j : ℕ). let n : SeatState = (Table (table_lost v (v.base + j)), carried) in n) (same_place v.base r k e)),
    ))

pub claims : (size : BoardSize) (id p : ℕ) (v : WorkerView) (carried : List (ℕ × Content)) (said : Option Content) → v.held ≡ None → p < count_places size
    → Allows (Orderly size) (count_places size) id (Worker v, carried) (2 + p) (λ n. either (eqb n 1) 2 n)
    (claimed (step (count_places size) (2 + p) 1 2 said) (Worker v, carried))
claims size id p v carried said free near s o wide me _ = let i : ℕ = 2 + p in
    let then : ℕ → SeatState → Type 0 = claimed (step (count_places size) (2 + p) 1 2 said) (Worker v, carried) in
    exchanged (get_or s.words i 0) 1 2 (Goes size s i id (Worker v, carried) then)
    (λ hit. let f = ready_place (get_or s.words (2 + p) 0) p (get_elem? s.homes p) (o.states p) s.views hit (o.places p near) in
    let x : Ticket = f.0 in let job : Job = f.1 in let w : WorkerView = holding v p x job in let vs : List View = set s.views id (Worker w) in
    let others_free : (q : ℕ) → q ≢ p → (is_at q v.held ≡ false) × (is_at q w.held ≡ false) = λ q ne. (ap (is_at q) free, ne_eqb p q (λ e. ne (sym e))) in
    let alone : HeldWith p x job vs = λ j u h at has here. ⊎_elim
    (λ (y : (j ≡ id) × (Worker w ≡ Worker u)). let e : Worker w ≡ Worker u = y.1 in let d : w ≡ u = cc in
    let c : Some (record { place = p; ticket = x; job = job }) ≡ Some h = ap (λ (z : WorkerView). z.held) d ∙ has in held_is p x job h c)
    (λ (y : (j ≢ id) × (get_elem? s.views j ≡ some (Worker u))). let z = term_le (λ u. one_if (holds_at p u)) s.views j (Worker u) y.1 in let a = one (holds_at p (Worker u)) (is_holding u h p has here) in let b = f.4 in absurd (omega arith))
    (at_set s.views id j (Worker w) (Worker u) at) in
    let counted : holders p vs ≡ 1 = let c = sum_by-changed (λ u. one_if (holds_at p u)) s.views id (Worker v) (Worker w) me in
    let a : one_if (holds_at p (Worker v)) ≡ 0 = ap (λ h. one_if (is_at p h)) free in let b : one_if (holds_at p (Worker w)) ≡ 1 = one (holds_at p (Worker w)) (eq-eqb p p refl) in let z = f.4 in omega arith in (
      Worker w,
      takes p (Offer x job),
      f.2,
      worker_step size s o id p 2 v w none me wide near (refl, refl) others_free
          (taken x job refl refl f.3 counted alone (finishes_same s.views id x (Worker v) (Worker w) me refl ∙ f.5))
          (λ q y j ne h l. refl)
          (λ y. (
            let e = finishes_same s.views id y (Worker v) (Worker w) me refl in let a = o.once y in omega arith,
            λ h. finishes_same s.views id y (Worker v) (Worker w) me refl ∙ o.offered y h,
          )),
      λ r e. ((λ _. subst (λ (q : ℕ). Claims (Worker v, carried) q (Worker w, (p, Offer x job) ∷ carried)) (two_more p r e) (x, job, refl)), λ miss. absurd (miss hit)),
    ))
    (λ miss. (
      Worker (worker_lost v p),
      keeps,
      tt,
      lost_worker size s o id p v me free,
      λ r e. ((λ hit. absurd (miss hit)), λ _. ap (λ (q : ℕ). let n : SeatState = (Worker (worker_lost v q), carried) in n) (two_more p r e)),
    ))

-- the same, where a miss is not noted
pub tries : (size : BoardSize) (id p : ℕ) (v : WorkerView) (carried : List (ℕ × Content)) (said : Option Content) → v.held ≡ None → p < count_places size
    → Allows (Orderly size) (count_places size) id (Worker v, carried) (2 + p) (λ n. either (eqb n 1) 2 n)
    (tried (step (count_places size) (2 + p) 1 2 said) (Worker v, carried))
tries size id p v carried said free near s o wide me _ = let i : ℕ = 2 + p in
    let then : ℕ → SeatState → Type 0 = tried (step (count_places size) (2 + p) 1 2 said) (Worker v, carried) in
    exchanged (get_or s.words i 0) 1 2 (Goes size s i id (Worker v, carried) then)
    (λ hit. let f = ready_place (get_or s.words (2 + p) 0) p (get_elem? s.homes p) (o.states p) s.views hit (o.places p near) in
    let x : Ticket = f.0 in let job : Job = f.1 in let w : WorkerView = holding v p x job in let vs : List View = set s.views id (Worker w) in
    let others_free : (q : ℕ) → q ≢ p → (is_at q v.held ≡ false) × (is_at q w.held ≡ false) = λ q ne. (ap (is_at q) free, ne_eqb p q (λ e. ne (sym e))) in
    let alone : HeldWith p x job vs = λ j u h at has here. ⊎_elim
    (λ (y : (j ≡ id) × (Worker w ≡ Worker u)). let e : Worker w ≡ Worker u = y.1 in let d : w ≡ u = cc in
    let c : Some (record { place = p; ticket = x; job = job }) ≡ Some h = ap (λ (z : WorkerView). z.held) d ∙ has in held_is p x job h c)
    (λ (y : (j ≢ id) × (get_elem? s.views j ≡ some (Worker u))). let z = term_le (λ u. one_if (holds_at p u)) s.views j (Worker u) y.1 in let a = one (holds_at p (Worker u)) (is_holding u h p has here) in let b = f.4 in absurd (omega arith))
    (at_set s.views id j (Worker w) (Worker u) at) in
    let counted : holders p vs ≡ 1 = let c = sum_by-changed (λ u. one_if (holds_at p u)) s.views id (Worker v) (Worker w) me in
    let a : one_if (holds_at p (Worker v)) ≡ 0 = ap (λ h. one_if (is_at p h)) free in let b : one_if (holds_at p (Worker w)) ≡ 1 = one (holds_at p (Worker w)) (eq-eqb p p refl) in let z = f.4 in omega arith in (
      Worker w,
      takes p (Offer x job),
      f.2,
      worker_step size s o id p 2 v w none me wide near (refl, refl) others_free
          (taken x job refl refl f.3 counted alone (finishes_same s.views id x (Worker v) (Worker w) me refl ∙ f.5))
          (λ q y j ne h l. refl)
          (λ y. (
            let e = finishes_same s.views id y (Worker v) (Worker w) me refl in let a = o.once y in omega arith,
            λ h. finishes_same s.views id y (Worker v) (Worker w) me refl ∙ o.offered y h,
          )),
      λ r e. ((λ _. subst (λ (q : ℕ). Claims (Worker v, carried) q (Worker w, (p, Offer x job) ∷ carried)) (two_more p r e) (x, job, refl)), λ miss. absurd (miss hit)),
    ))
    (λ miss. (
      Worker v,
      keeps,
      tt,
      unmoved size s o id i (Worker v) (Worker v) me (λ n. refl) (o.seats id (Worker v) me) (λ q. (ap (is_at q) free, ap (is_at q) free)) (λ x. refl),
      λ r e. ((λ hit. absurd (miss hit)), λ _. refl),
    ))

-- a look at a place: no word changes, and where nothing is ready the view notes the place
pub sees_ready : (size : BoardSize) (id p : ℕ) (v : WorkerView) (carried : List (ℕ × Content)) → v.held ≡ None
    → Allows (Orderly size) (count_places size) id (Worker v, carried) (2 + p) (λ n. n) (seen_ready (step (count_places size) (2 + p) 0 0 none) (Worker v, carried))
sees_ready size id p v carried free s o wide me _ =
    dite (ℕ_discrete (get_or s.words (2 + p) 0) 1)
    (λ hit. (
      Worker v,
      keeps,
      tt,
      unmoved size s o id (2 + p) (Worker v) (Worker v) me (λ n. refl) (o.seats id (Worker v) me) (λ q. (ap (is_at q) free, ap (is_at q) free)) (λ x. refl),
      λ q e. ((λ _. refl), λ miss. absurd (miss hit)),
    ))
    (λ miss. (
      Worker (worker_lost v p),
      keeps,
      tt,
      lost_worker size s o id p v me free,
      λ r e. ((λ hit. absurd (miss hit)), λ _. ap (λ (q : ℕ). let n : SeatState = (Worker (worker_lost v q), carried) in n) (two_more p r e)),
    ))

pub sees_done : (size : BoardSize) (id k : ℕ) (v : TableView) (carried : List (ℕ × Content))
    → Allows (Orderly size) (count_places size) id (Table v, carried) (2 + (v.base + k)) (λ n. n) (seen_done (step (count_places size) (2 + (v.base + k)) 0 0 none) (Table v, carried))
sees_done size id k v carried s o wide me _ = let p : ℕ = v.base + k in let i : ℕ = 2 + p in
    dite (ℕ_discrete (get_or s.words i 0) 3)
    (λ hit. (
      Table v,
      keeps,
      tt,
      unmoved size s o id i (Table v) (Table v) me (λ n. refl) (o.seats id (Table v) me) (λ q. (refl, refl)) (λ x. refl),
      λ r e. ((λ _. refl), λ miss. absurd (miss hit)),
    ))
    (λ miss. (
      Table (table_lost v p),
      keeps,
      tt,
      lost_table size s o id i p v me,
      λ r e. ((λ hit. absurd (miss hit)), λ _. ap (λ (j : ℕ). let n : SeatState = (Table (table_lost v (v.base + j)), carried) in n) (same_place v.base r k e)),
    ))

pub finishes_at : (size : BoardSize) (id p : ℕ) (v : WorkerView) (h : Held) (piece : Ticketed) (more : List (ℕ × Content)) → v.held ≡ Some h → h.place ≡ p → piece.ticket ≡ h.ticket → piece.job ≡ h.job → p < count_places size
    → Allows (Orderly size) (count_places size) id (Worker v, (p, Done piece) ∷ more) (2 + p) (λ _. 3)
    (λ _. finished (step (count_places size) (2 + p) 3 0 none) (Worker v, (p, Done piece) ∷ more) 3)
finishes_at size id p v h piece more has here ticket job near s o wide me _ =
    let mine : holds_at p (Worker v) ≡ true = is_holding v h p has here in
    let some_one : 1 ≤ holders p s.views = let a = term_le (λ u. one_if (holds_at p u)) s.views id (Worker v) me in let b = one (holds_at p (Worker v)) mine in omega arith in
    let f = taken_place (get_or s.words (2 + p) 0) p (get_elem? s.homes p) (o.states p) s.views some_one (o.places p near) in
    let x : Ticket = f.0 in let given = f.4 id v h me has here in
    let e : piece.ticket ≡ x = ticket ∙ given.0 in let d : piece.job ≡ f.1 = job ∙ given.1 in
    let w : WorkerView = having_finished v h.ticket in let vs : List View = set s.views id (Worker w) in
    let state : o.states p ≡ Out piece.ticket piece.job = f.2 ∙ sym (ap (λ (z : Ticket). Out z piece.job) e ∙ ap (λ (z : Job). Out x z) d) in
    let none_left : holders p vs ≡ 0 = let c = sum_by-changed (λ u. one_if (holds_at p u)) s.views id (Worker v) (Worker w) me in let b = one (holds_at p (Worker v)) mine in let a = f.3 in omega arith in
    let counted : (y : Ticket) → finishes y vs ≡ finishes y s.views + one_if (same_ticket y h.ticket) = λ y. let c = sum_by-changed (λ u. times_listed y (finished_of u)) s.views id (Worker v) (Worker w) me in omega (arith, times_listed-push y h.ticket v.finished) in
    let unfinished : finishes h.ticket s.views ≡ 0 = ap (λ (z : Ticket). finishes z s.views) given.0 ∙ f.5 in
    let either_way : (y : Ticket) → ((y ≡ h.ticket) × (one_if (same_ticket y h.ticket) ≤ 1)) ⊎ (one_if (same_ticket y h.ticket) ≡ 0) = λ y. tested y h.ticket in (
      Worker w,
      gives,
      tt,
      worker_step size s o id p 3 v w (some (Done piece)) me wide near (refl, refl)
          (λ q ne. (ap (is_at q) has ∙ ne_eqb h.place q (λ c. ne (sym c ∙ here)), refl))
          (done piece refl refl state none_left)
          (λ q y j ne g l. ⊎_elim (λ (c : (y ≡ h.ticket) × (one_if (same_ticket y h.ticket) ≤ 1)). absurd (ne (o.differ q p y j f.1 g near l (f.2 ∙ ap (λ (z : Ticket). Out z f.1) (sym (c.0 ∙ given.0))))))
          (λ c. let a = times_listed-push y h.ticket v.finished in omega arith) (either_way y))
          (λ y. ⊎_elim
          (λ (c : (y ≡ h.ticket) × (one_if (same_ticket y h.ticket) ≤ 1)). let z : finishes y s.views ≡ 0 = ap (λ (r : Ticket). finishes r s.views) c.0 ∙ unfinished in let a = counted y in let b = c.1 in
          let bound = o.own p x f.1 near f.2 in let same : y ≡ x = c.0 ∙ given.0 in let q = ap (λ (r : Ticket). r.seq) same in let q' = ap (λ (r : Ticket). o.offers r.table) same in
          (omega arith, λ g. absurd (omega (arith, bound.2))))
          (λ c. let a = counted y in let b = o.once y in (omega arith, λ g. let z = o.offered y g in omega arith)) (either_way y)),
      λ h' g. let same : Some h ≡ Some h' = sym has ∙ g in let hh : h ≡ h' = cc in (
        ap (λ (z : Held). let n : SeatState = (Worker (having_finished v z.ticket), more) in n) hh,
        (let le = term_le (λ u. times_listed h.ticket (finished_of u)) s.views id (Worker v) me in let z : times_listed h.ticket v.finished ≡ 0 = omega arith in ap (λ (r : Held). times_listed r.ticket v.finished) (sym hh) ∙ z),
      ),
    )

others_halted : (size : BoardSize) (s : St) (o : Orderly size s) (id r : ℕ) (v : StopView) → get_elem? s.views id ≡ some (Stop v) → r ≡ 1
    → (j : ℕ) (u : View) → get_elem? s.views j ≡ some u → j ≢ id → Seated size o.states o.offers r u
others_halted size s o id r v me halt j (Entering about) at ne = o.seats j (Entering about) at
others_halted size s o id r v me halt j (Table u) at ne = o.seats j (Table u) at
others_halted size s o id r v me halt j (Worker u) at ne = let t = o.seats j (Worker u) at in (t.0, t.1, λ _. halt)
others_halted size s o id r v me halt j (Stop u) at ne = let t = o.seats j (Stop u) at in let y = o.seats id (Stop v) me in
    absurd (apart_numbers size s o id j v.number (Stop v) (Stop u) ne me at (eq-eqb v.number v.number refl) (eq-eqb u.number v.number (t.0 ∙ sym y.0)))

-- a seat gets the next number
enters : (size : BoardSize) (s : St) (o : Orderly size s) (id i : ℕ) (about : BoardSize) (w : View) → get_elem? s.views id ≡ some (Entering about) → get_or s.words 0 0 ≡ i → i ≤ size.tables + size.workers
    → ((n : ℕ) → has_number n w ≡ eqb i n) → Seated size o.states o.offers (get_or s.words 1 0) w → ((q : ℕ) → holds_at q w ≡ false) → ((x : Ticket) → times_listed x (finished_of w) ≡ 0)
    → Orderly size (board (set s.words 0 (i + 1)) s.homes (set s.views id w))
enters size s o id i about w me hit few has mine free none_yet =
    let long = o.sized in let ws : List ℕ = set s.words 0 (i + 1) in
    let roll : get_or ws 0 0 ≡ i + 1 = get_or-set_same s.words 0 (i + 1) 0 (omega arith) in
    let halt : get_or ws 1 0 ≡ get_or s.words 1 0 = get_or-set_other s.words 0 1 (i + 1) 0 (λ e. omega arith) in
    at_seat size s o id (Entering about) w ws me (length-set s.words 0 (i + 1)) (λ p. get_or-set_other s.words 0 (2 + p) (i + 1) 0 (λ e. omega arith))
    (λ n. let c = sum_by-changed (λ x. one_if (has_number n x)) s.views id (Entering about) w me in let a = o.numbers n in let b : one_if (has_number n w) ≡ one_if (eqb i n) = ap one_if (has n) in
    dite (ℕ_discrete i n)
    (λ e. let y : one_if (eqb i n) ≡ 1 = one (eqb i n) (eq-eqb i n e) in let z = a.1 (omega arith) in (λ _. omega arith, λ h. absurd (omega arith)))
    (λ ne. let y : one_if (eqb i n) ≡ 0 = ap one_if (ne_eqb i n ne) in (λ h. let z = a.0 (omega arith) in omega arith, λ h. let z = a.1 (omega arith) in omega arith)))
    (subst (λ (r : ℕ). Seated size o.states o.offers r w) (sym halt) mine)
    (λ j u at ne. subst (λ (r : ℕ). Seated size o.states o.offers r u) (sym halt) (o.seats j u at))
    (λ q. (refl, free q)) (λ x. none_yet x) (omega arith) (λ h. halt ∙ o.unstopped (omega arith))

-- nothing was said, and the seat is as before
kept_out : (size : BoardSize) (s : St) (o : Orderly size s) (id i : ℕ) (about : BoardSize) → get_elem? s.views id ≡ some (Entering about)
    → Orderly size (board (set s.words i (get_or s.words i 0)) s.homes (set s.views id (Entering about)))
kept_out size s o id i about me = unmoved size s o id i (Entering about) (Entering about) me (λ n. refl) (o.seats id (Entering about) me) (λ q. (refl, refl)) (λ x. refl)

-- a seat gets the number where it is the next one
enters_as : (view : ℕ → BoardSize → View) (size : BoardSize) (id i : ℕ) (carried : List (ℕ × Content)) (said : Option Content) → i ≤ size.tables + size.workers
    → ((n : ℕ) → has_number n (view i size) ≡ eqb i n) → ((q : ℕ) → holds_at q (view i size) ≡ false) → ((x : Ticket) → times_listed x (finished_of (view i size)) ≡ 0)
    → ((s : St) (o : Orderly size s) → get_or s.words 0 0 ≡ i → Seated size o.states o.offers (get_or s.words 1 0) (view i size))
    → Allows (Orderly size) (count_places size) id (Entering size, carried) 0 (λ n. either (eqb n i) (i + 1) n) (entered view (step (count_places size) 0 i (i + 1) said) (Entering size, carried))
enters_as view size id i carried said few has free none_yet mine s o wide me _ = let then : ℕ → SeatState → Type 0 = entered view (step (count_places size) 0 i (i + 1) said) (Entering size, carried) in
    exchanged (get_or s.words 0 0) i (i + 1) (Goes size s 0 id (Entering size, carried) then)
    (λ hit. (
      view i size,
      keeps,
      tt,
      enters size s o id i size (view i size) me hit few has (mine s o hit) free none_yet,
      (λ _. ap (λ (r : ℕ). let n : SeatState = (view r size, carried) in n) (sym hit), λ miss. absurd (miss hit)),
    ))
    (λ miss. (Entering size, keeps, tt, kept_out size s o id 0 size me, (λ hit. absurd (miss hit), λ _. refl)))

pub halts : (size : BoardSize) (id : ℕ) (v : StopView) (carried : List (ℕ × Content))
    → Allows (Orderly size) (count_places size) id (Stop v, carried) 1 (λ _. 1) (λ _. stopped (step (count_places size) 1 1 0 none) (Stop v, carried) 1)
halts size id v carried s o wide me _ =
    let long = o.sized in let ws : List ℕ = set s.words 1 1 in let w : StopView = record { number = v.number; knows_stop = true } in
    let t = o.seats id (Stop v) me in let low = below_roll size s o id v.number (Stop v) me (eq-eqb v.number v.number refl) in
    let roll : get_or ws 0 0 ≡ get_or s.words 0 0 = get_or-set_other s.words 1 0 1 0 (λ e. omega arith) in
    let halt : get_or ws 1 0 ≡ 1 = get_or-set_same s.words 1 1 0 (omega arith) in
    let others : (j : ℕ) (u : View) → get_elem? s.views j ≡ some u → j ≢ id → Seated size o.states o.offers (get_or ws 1 0) u = λ j u at ne. others_halted size s o id (get_or ws 1 0) v me halt j u at ne in (
      Stop w,
      keeps,
      tt,
      at_seat size s o id (Stop v) (Stop w) ws me (length-set s.words 1 1) (λ p. get_or-set_other s.words 1 (2 + p) 1 0 (λ e. omega arith))
          (λ n. subst (λ (r : ℕ). (n < r → numbered n (set s.views id (Stop w)) ≡ 1) × (r ≤ n → numbered n (set s.views id (Stop w)) ≡ 0)) (sym roll)
          (subst (λ (c : ℕ). (n < get_or s.words 0 0 → c ≡ 1) × (get_or s.words 0 0 ≤ n → c ≡ 0)) (sym (numbered_same s.views id n (Stop v) (Stop w) me refl)) (o.numbers n)))
          (t.0, halt) others (λ q. (refl, refl)) (λ x. refl) (omega arith) (λ h. absurd (omega arith)),
      refl,
    )

pub looks : (size : BoardSize) (id : ℕ) (v : WorkerView) (carried : List (ℕ × Content)) → v.held ≡ None
    → Allows (Orderly size) (count_places size) id (Worker v, carried) 1 (λ n. n) (looked (step (count_places size) 1 0 0 none) (Worker v, carried))
looks size id v carried free s o wide me _ = let r : ℕ = get_or s.words 1 0 in let w : WorkerView = looking v (eqb r 1) in let t = o.seats id (Worker v) me in (
  Worker w,
  keeps,
  tt,
  unmoved size s o id 1 (Worker v) (Worker w) me (λ n. refl) (t.0, t.1, λ e. eqb-true r 1 e) (λ q. (ap (is_at q) free, ap (is_at q) free)) (λ x. refl),
  (refl, t.2),
)

-- one more seat that has not entered
longer : {A : Type 0} (g : A → ℕ) (l : List A) (a : A) → g a ≡ 0 → sum_by g (l ++ a ∷ []) ≡ sum_by g l
longer g l a e = omega (arith, sum_by_push g l a)

more_views : (word p : ℕ) (home : Option (Option Content)) (state : PlaceState) (vs : List View) (about : BoardSize) → Standing word home state p vs → Standing word home state p (vs ++ Entering about ∷ [])
more_views word p home state vs about (fresh e h l n) = fresh e h l (longer (λ u. one_if (holds_at p u)) vs (Entering about) refl ∙ n)
more_views word p home state vs about (vacant e h l n) = vacant e h l (longer (λ u. one_if (holds_at p u)) vs (Entering about) refl ∙ n)
more_views word p home state vs about (ready x job e h l n z) = ready x job e h l (longer (λ u. one_if (holds_at p u)) vs (Entering about) refl ∙ n) (longer (λ u. times_listed x (finished_of u)) vs (Entering about) refl ∙ z)
more_views word p home state vs about (taken x job e h l n held z) = taken x job e h l (longer (λ u. one_if (holds_at p u)) vs (Entering about) refl ∙ n)
    (λ i u y at has here. ⊎_elim (λ b. held i u y b has here) (λ (b : Entering about ≡ Worker u). cc) (at_snoc vs (Entering about) (Worker u) i at))
    (longer (λ u. times_listed x (finished_of u)) vs (Entering about) refl ∙ z)
more_views word p home state vs about (done piece e h l n) = done piece e h l (longer (λ u. one_if (holds_at p u)) vs (Entering about) refl ∙ n)

pub splits : (size : BoardSize) (id : ℕ) → Splits (Orderly size) id (Entering size) (Entering size) (Entering size)
splits size id s o me = let w : View = Entering size in subst (λ (vs : List View). Orderly size (board s.words s.homes (vs ++ w ∷ []))) (sym (set_again s.views id w me)) (record {
  states = o.states;
  offers = o.offers;
  sized = o.sized;
  numbers = λ n. subst (λ (c : ℕ). (n < get_or s.words 0 0 → c ≡ 1) × (get_or s.words 0 0 ≤ n → c ≡ 0)) (sym (longer (λ u. one_if (has_number n u)) s.views w refl)) (o.numbers n);
  seats = λ j u at. ⊎_elim (λ b. o.seats j u b) (λ (b : w ≡ u). subst (Seated size o.states o.offers (get_or s.words 1 0)) b refl) (at_snoc s.views w u j at);
  unentered = o.unentered;
  strange = o.strange;
  unstopped = o.unstopped;
  places = λ p h. more_views (get_or s.words (2 + p) 0) p (get_elem? s.homes p) (o.states p) s.views size (o.places p h);
  own = o.own;
  differ = o.differ;
  once = λ x. let e = longer (λ u. times_listed x (finished_of u)) s.views w refl in let a = o.once x in omega arith;
  offered = λ x h. longer (λ u. times_listed x (finished_of u)) s.views w refl ∙ o.offered x h;
})

pub opens : (size : BoardSize) (ws : List ℕ) (xs : List Content) → ws ≡ replicate (2 + count_places size) 0 → xs ≡ replicate (count_places size) Empty → Orderly size (opening ws xs (entering size))
opens size ws xs e d =
    let zero_at : (i : ℕ) → get_or ws i 0 ≡ 0 = λ i. ap (λ (l : List ℕ). get_or l i 0) e ∙ zeros (2 + count_places size) i in
    let roll = zero_at 0 in
    record {
      states = λ _. Fresh;
      offers = λ _. 0;
      sized = ap length e ∙ length-replicate (2 + count_places size) 0;
      numbers = λ n. (λ h. absurd (omega arith), λ h. refl);
      seats = λ j u at. ⊎_elim (λ (b : get_elem? [] j ≡ some u). absurd (some-ne-none u (sym b))) (λ (b : entering size ≡ u). subst (Seated size (λ _. Fresh) (λ _. 0) (get_or ws 1 0)) b refl) (at_snoc [] (entering size) u j at);
      unentered = λ t h. (refl, λ k hk. refl);
      strange = λ t h. refl;
      unstopped = λ h. zero_at 1;
      places = λ p h. fresh (zero_at (2 + p)) (ap (λ (l : List Content). get_elem? (map some l) p) d ∙ empties (count_places size) p h) refl refl;
      own = λ p x job h l. cc;
      differ = λ p q x a b h g l m. cc;
      once = λ x. omega arith;
      offered = λ x h. refl;
    }

-- the same calls, at what a caller has
along_me : (P : BoardSize → ℕ → ℕ → SeatState → Type 0) (key size : BoardSize) (slots n word i : ℕ) (m m' : SeatState) → key ≡ size → slots ≡ n → word ≡ i → m ≡ m' → P size n i m' → P key slots word m
along_me P key size slots n word i m m' a b c d p = subst (λ (x : BoardSize). P x slots word m) (sym a) (subst (λ (x : ℕ). P size x word m) (sym b) (subst (λ (x : ℕ). P size n x m) (sym c) (subst (λ (x : SeatState). P size n i x) (sym d) p)))

module _ (key size : BoardSize) (slots id word : ℕ) (m : SeatState) (keyed : key ≡ size) (sized : slots ≡ count_places size) where
  pub may_take_up : (k : ℕ) → m.0 ≡ Table (table_seen m.0) → word ≡ 2 + ((table_seen m.0).base + k) → get_elem? (table_seen m.0).states k ≡ some Fresh
      → Allows (Orderly key) slots id m word (λ _. 0) (λ _. took_up (step slots word 0 0 none) m 0)
  may_take_up k is at state = let v : TableView = table_seen m.0 in
      along_me (λ a n i y. Allows (Orderly a) n id y i (λ _. 0) (λ _. took_up (step n i 0 0 none) y 0)) key size slots (count_places size) word (2 + (v.base + k)) m (Table v, m.1) keyed sized at (λ i. (is i, m.1))
      (takes_up size id k v m.1 state)

  pub may_offer : (k : ℕ) (v : TableView) (x : Ticket) (job : Job) (more : List (ℕ × Content)) → m ≡ (Table v, (v.base + k, Offer x job) ∷ more) → word ≡ 2 + (v.base + k) → get_elem? v.states k ≡ some Vacant → x.table ≡ v.number → x.seq ≡ v.offers
      → Allows (Orderly key) slots id m word (λ _. 1) (λ _. offered (step slots word 1 0 none) m 1)
  may_offer k v x job more is at state mine next =
      along_me (λ a n i y. Allows (Orderly a) n id y i (λ _. 1) (λ _. offered (step n i 1 0 none) y 1)) key size slots (count_places size) word (2 + (v.base + k)) m (Table v, (v.base + k, Offer x job) ∷ more) keyed sized at is
      (offers size id k v x job more state mine next)

  pub may_fetch : (k : ℕ) (state : PlaceState) → m.0 ≡ Table (table_seen m.0) → word ≡ 2 + ((table_seen m.0).base + k) → get_elem? (table_seen m.0).states k ≡ some state
      → Allows (Orderly key) slots id m word (λ n. either (eqb n 3) 0 n) (fetched (step slots word 3 0 none) m)
  may_fetch k state is at has = let v : TableView = table_seen m.0 in
      along_me (λ a n i y. Allows (Orderly a) n id y i (λ z. either (eqb z 3) 0 z) (fetched (step n i 3 0 none) y)) key size slots (count_places size) word (2 + (v.base + k)) m (Table v, m.1) keyed sized at (λ i. (is i, m.1))
      (fetches size id k v m.1 state none has)

  pub may_claim : (p : ℕ) → m.0 ≡ Worker (worker_seen m.0) → word ≡ 2 + p → (worker_seen m.0).held ≡ None → p < slots
      → Allows (Orderly key) slots id m word (λ n. either (eqb n 1) 2 n) (claimed (step slots word 1 2 none) m)
  may_claim p is at free near = let v : WorkerView = worker_seen m.0 in
      along_me (λ a n i y. Allows (Orderly a) n id y i (λ z. either (eqb z 1) 2 z) (claimed (step n i 1 2 none) y)) key size slots (count_places size) word (2 + p) m (Worker v, m.1) keyed sized at (λ i. (is i, m.1))
      (claims size id p v m.1 none free (omega arith))

  pub may_try : (p : ℕ) → m.0 ≡ Worker (worker_seen m.0) → word ≡ 2 + p → (worker_seen m.0).held ≡ None → p < slots
      → Allows (Orderly key) slots id m word (λ n. either (eqb n 1) 2 n) (tried (step slots word 1 2 none) m)
  may_try p is at free near = let v : WorkerView = worker_seen m.0 in
      along_me (λ a n i y. Allows (Orderly a) n id y i (λ z. either (eqb z 1) 2 z) (tried (step n i 1 2 none) y)) key size slots (count_places size) word (2 + p) m (Worker v, m.1) keyed sized at (λ i. (is i, m.1))
      (tries size id p v m.1 none free (omega arith))

  pub may_finish : (p : ℕ) (v : WorkerView) (h : Held) (piece : Ticketed) (more : List (ℕ × Content)) → m ≡ (Worker v, (p, Done piece) ∷ more) → word ≡ 2 + p → v.held ≡ Some h → h.place ≡ p → piece.ticket ≡ h.ticket → piece.job ≡ h.job → p < slots
      → Allows (Orderly key) slots id m word (λ _. 3) (λ _. finished (step slots word 3 0 none) m 3)
  may_finish p v h piece more is at has here ticket job near =
      along_me (λ a n i y. Allows (Orderly a) n id y i (λ _. 3) (λ _. finished (step n i 3 0 none) y 3)) key size slots (count_places size) word (2 + p) m (Worker v, (p, Done piece) ∷ more) keyed sized at is
      (finishes_at size id p v h piece more has here ticket job (omega arith))

  pub may_see_ready : (p : ℕ) → m.0 ≡ Worker (worker_seen m.0) → word ≡ 2 + p → (worker_seen m.0).held ≡ None
      → Allows (Orderly key) slots id m word (λ n. n) (seen_ready (step slots word 0 0 none) m)
  may_see_ready p is at free = let v : WorkerView = worker_seen m.0 in
      along_me (λ a n i y. Allows (Orderly a) n id y i (λ z. z) (seen_ready (step n i 0 0 none) y)) key size slots (count_places size) word (2 + p) m (Worker v, m.1) keyed sized at (λ i. (is i, m.1))
      (sees_ready size id p v m.1 free)

  pub may_see_done : (k : ℕ) → m.0 ≡ Table (table_seen m.0) → word ≡ 2 + ((table_seen m.0).base + k)
      → Allows (Orderly key) slots id m word (λ n. n) (seen_done (step slots word 0 0 none) m)
  may_see_done k is at = let v : TableView = table_seen m.0 in
      along_me (λ a n i y. Allows (Orderly a) n id y i (λ z. z) (seen_done (step n i 0 0 none) y)) key size slots (count_places size) word (2 + (v.base + k)) m (Table v, m.1) keyed sized at (λ i. (is i, m.1))
      (sees_done size id k v m.1)

  pub may_halt : m.0 ≡ Stop (stop_seen m.0) → word ≡ 1 → Allows (Orderly key) slots id m word (λ _. 1) (λ _. stopped (step slots word 1 0 none) m 1)
  may_halt is at = let v : StopView = stop_seen m.0 in
      along_me (λ a n i y. Allows (Orderly a) n id y i (λ _. 1) (λ _. stopped (step n i 1 0 none) y 1)) key size slots (count_places size) word 1 m (Stop v, m.1) keyed sized at (λ i. (is i, m.1))
      (halts size id v m.1)

  pub may_look : m.0 ≡ Worker (worker_seen m.0) → word ≡ 1 → (worker_seen m.0).held ≡ None → Allows (Orderly key) slots id m word (λ n. n) (looked (step slots word 0 0 none) m)
  may_look is at free = let v : WorkerView = worker_seen m.0 in
      along_me (λ a n i y. Allows (Orderly a) n id y i (λ z. z) (looked (step n i 0 0 none) y)) key size slots (count_places size) word 1 m (Worker v, m.1) keyed sized at (λ i. (is i, m.1))
      (looks size id v m.1 free)

  may_enter : (view : ℕ → BoardSize → View) (i : ℕ) → m.0 ≡ entering size → word ≡ 0
      → Allows (Orderly size) (count_places size) id (Entering size, m.1) 0 (λ n. either (eqb n i) (i + 1) n) (entered view (step (count_places size) 0 i (i + 1) none) (Entering size, m.1))
      → Allows (Orderly key) slots id m word (λ n. either (eqb n i) (i + 1) n) (entered view (step slots word i (i + 1) none) m)
  may_enter view i is at may =
      along_me (λ a n j y. Allows (Orderly a) n id y j (λ z. either (eqb z i) (i + 1) z) (entered view (step n j i (i + 1) none) y)) key size slots (count_places size) word 0 m (Entering size, m.1) keyed sized at (λ j. (is j, m.1)) may

  pub may_enter_table : (i : ℕ) → m.0 ≡ entering size → word ≡ 0 → i < size.tables → Allows (Orderly key) slots id m word (λ n. either (eqb n i) (i + 1) n) (entered_table (step slots word i (i + 1) none) m)
  may_enter_table i is at few =
      let view : ℕ → BoardSize → View = λ number about. Table (new_table number about) in
      may_enter view i is at (enters_as view size id i m.1 none (omega arith) (λ n. refl) (λ q. refl) (λ x. refl) (λ s o hit.
      let u = o.unentered i (omega (arith, hit, few)) in
      (few, refl, length-replicate size.places Fresh, (λ k state at. let c = replicate_is size.places Fresh k state at in u.1 k c.0 ∙ c.1), sym u.0)))

  pub may_enter_worker : (i : ℕ) → m.0 ≡ entering size → word ≡ 0 → size.tables ≤ i → i < size.tables + size.workers
      → Allows (Orderly key) slots id m word (λ n. either (eqb n i) (i + 1) n) (entered_worker (step slots word i (i + 1) none) m)
  may_enter_worker i is at from few =
      let view : ℕ → BoardSize → View = λ number about. Worker (new_worker number) in
      may_enter view i is at (enters_as view size id i m.1 none (omega arith) (λ n. refl) (λ q. refl) (λ x. refl) (λ s o hit. (from, few, λ e. absurd (false≢true e))))

  pub may_enter_stop : (i : ℕ) → m.0 ≡ entering size → word ≡ 0 → i ≡ size.tables + size.workers → Allows (Orderly key) slots id m word (λ n. either (eqb n i) (i + 1) n) (entered_stop (step slots word i (i + 1) none) m)
  may_enter_stop i is at last =
      let view : ℕ → BoardSize → View = λ number about. Stop (record { number = number; knows_stop = false }) in
      may_enter view i is at (enters_as view size id i m.1 none (omega arith) (λ n. refl) (λ q. refl) (λ x. refl) (λ s o hit. (last, o.unstopped (omega (arith, hit, last)))))

pub may_split : (key size : BoardSize) (id : ℕ) (v : View) → key ≡ size → v ≡ entering size → Splits (Orderly key) id v v v
may_split key size id v keyed is = subst (λ (a : BoardSize). Splits (Orderly a) id v v v) (sym keyed) (subst (λ (w : View). Splits (Orderly size) id w w w) (sym is) (splits size id))
