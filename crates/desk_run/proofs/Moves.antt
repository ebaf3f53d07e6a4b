-- Each step keeps the rule.
use Rattle.std.proofs.Common.{◌≡◌, ℕ, zero, suc, ◌+◌, ◌*◌, ◌<◌, ◌≤◌, ◌≢◌, true, false, List, [], ◌∷◌, length, get_or, set, sym, refl, ap, ◌∙◌, subst, arith, eqb, eq-eqb, ⊎_elim, length-set, get_or-set_other, get_or-set_same, Some}
use mathlib.Core.Bool.{false≢true}
use mathlib.Core.Logic.{dite}
use native.Mathlib.Decide.{ℕ_discrete, dec_le}
use mathlib.Core.Option.{Option, some, none, some-ne-none}
use lib.ListN.{get_elem?}
use lib.Seq.{set-get_or}
use Rattle.atomic_table.specs.Table.{State}
use Rattle.atomic_table.proofs.Lists.{at_set, set_here, set_else}
use Rattle.desk_run.specs.Counts.{one_if, times_listed}
use Rattle.desk_run.specs.Views.{has_number, is_at, holds_at, finished_of, numbered, holders, finishes}
use Rattle.desk_run.specs.Rule.{count_places, HeldWith, Standing, fresh, vacant, ready, taken, done, Seated, Orderly}
use Rattle.desk_core.specs.declared.ticket.Ticket.{Ticket}
use Rattle.riichi_hand.specs.declared.job.Job.{Job}
use Rattle.desk_core.specs.Ticketed.{Ticketed}
use Rattle.desk_run.specs.declared.content.Content.{Content}
use Rattle.desk_run.specs.declared.content.Content.TheVariants.{Empty, Offer, Done}
use Rattle.desk_run.specs.declared.size.BoardSize.{BoardSize}
use Rattle.desk_run.specs.declared.place_state.PlaceState.{PlaceState}
use Rattle.desk_run.specs.declared.place_state.PlaceState.TheVariants.{Fresh, Vacant, Out}
use Rattle.desk_run.specs.declared.held.Held.{Held}
use Rattle.desk_run.specs.declared.view.TableView.{TableView}
use Rattle.desk_run.specs.declared.view.WorkerView.{WorkerView}
use Rattle.desk_run.specs.declared.view.View.{View}
use Rattle.desk_run.specs.declared.view.View.TheVariants.{Entering, Table, Worker, Stop}
use Rattle.desk_run.proofs.Lists.{sum_by-same, term_le, terms_le, one, put, put_here, put_else, apart, within}

abbrev pub St : Type 0
St = State Content View

abbrev pub board : List ℕ → List (Option Content) → List View → St
board ws hs vs = record { words = ws; homes = hs; views = vs }

pub is_holding : (u : WorkerView) (h : Held) (q : ℕ) → u.held ≡ Some h → h.place ≡ q → holds_at q (Worker u) ≡ true
is_holding u h q e d = ap (is_at q) e ∙ eq-eqb h.place q d

pub holders_same : (vs : List View) (id q : ℕ) (v w : View) → get_elem? vs id ≡ some v → holds_at q w ≡ holds_at q v → holders q (set vs id w) ≡ holders q vs
holders_same vs id q v w me e = sum_by-same (λ x. one_if (holds_at q x)) vs id v w me (ap one_if e)

pub finishes_same : (vs : List View) (id : ℕ) (x : Ticket) (v w : View) → get_elem? vs id ≡ some v → times_listed x (finished_of w) ≡ times_listed x (finished_of v) → finishes x (set vs id w) ≡ finishes x vs
finishes_same vs id x v w me e = sum_by-same (λ y. times_listed x (finished_of y)) vs id v w me e

pub numbered_same : (vs : List View) (id n : ℕ) (v w : View) → get_elem? vs id ≡ some v → has_number n w ≡ has_number n v → numbered n (set vs id w) ≡ numbered n vs
numbered_same vs id n v w me e = sum_by-same (λ x. one_if (has_number n x)) vs id v w me (ap one_if e)

-- a place that the seat does not hold, before and after
still : (vs : List View) (id q word : ℕ) (v w : View) (home : Option (Option Content)) (state : PlaceState) → get_elem? vs id ≡ some v
    → holds_at q v ≡ false → holds_at q w ≡ false
    → ((x : Ticket) (job : Job) → state ≡ Out x job → times_listed x (finished_of w) ≡ times_listed x (finished_of v))
    → Standing word home state q vs → Standing word home state q (set vs id w)
still vs id q word v w home state me a b f (fresh e h l n) = fresh e h l (holders_same vs id q v w me (b ∙ sym a) ∙ n)
still vs id q word v w home state me a b f (vacant e h l n) = vacant e h l (holders_same vs id q v w me (b ∙ sym a) ∙ n)
still vs id q word v w home state me a b f (ready x job e h l n z) = ready x job e h l (holders_same vs id q v w me (b ∙ sym a) ∙ n) (finishes_same vs id x v w me (f x job l) ∙ z)
still vs id q word v w home state me a b f (taken x job e h l n held z) = taken x job e h l (holders_same vs id q v w me (b ∙ sym a) ∙ n)
    (λ i u y at has here. ⊎_elim (λ (t : (i ≡ id) × (w ≡ Worker u)). absurd (false≢true (sym b ∙ (ap (holds_at q) t.1 ∙ is_holding u y q has here))))
    (λ (t : (i ≢ id) × (get_elem? vs i ≡ some (Worker u))). held i u y t.1 has here) (at_set vs id i w (Worker u) at))
    (finishes_same vs id x v w me (f x job l) ∙ z)
still vs id q word v w home state me a b f (done piece e h l n) = done piece e h l (holders_same vs id q v w me (b ∙ sym a) ∙ n)

-- the same place, seen by other words
along : (word word' : ℕ) (home home' : Option (Option Content)) (state state' : PlaceState) (p : ℕ) (vs : List View) → word ≡ word' → home ≡ home' → state ≡ state' → Standing word home state p vs → Standing word' home' state' p vs
along word word' home home' state state' p vs e d l s = subst (λ (n : ℕ). Standing n home' state' p vs) e (subst (λ (h : Option (Option Content)). Standing word h state' p vs) d (subst (λ (x : PlaceState). Standing word home x p vs) l s))

-- a step at the place p of the seat id
pub at_place : (size : BoardSize) (s : St) (o : Orderly size s) (id p n : ℕ) (v w : View) (home : Option Content) (state : PlaceState) (offers : ℕ → ℕ)
    → get_elem? s.views id ≡ some v → p < count_places size → length s.homes ≡ count_places size
    → ((m : ℕ) → has_number m w ≡ has_number m v)
    → Seated size (put o.states p state) offers (get_or s.words 1 0) w
    → ((j : ℕ) (u : View) → get_elem? s.views j ≡ some u → j ≢ id → Seated size (put o.states p state) offers (get_or s.words 1 0) u)
    → ((q : ℕ) → q ≢ p → (holds_at q v ≡ false) × (holds_at q w ≡ false))
    → Standing n (some home) state p (set s.views id w)
    → ((t : ℕ) → get_or s.words 0 0 ≤ t → (offers t ≡ 0) × ((k : ℕ) → k < size.places → put o.states p state (t * size.places + k) ≡ Fresh))
    → ((t : ℕ) → size.tables ≤ t → offers t ≡ 0)
    → ((q : ℕ) (x : Ticket) (job : Job) → q ≢ p → q < count_places size → o.states q ≡ Out x job → times_listed x (finished_of w) ≡ times_listed x (finished_of v))
    → ((x : Ticket) (job : Job) → state ≡ Out x job → (x.table * size.places ≤ p) × (p < x.table * size.places + size.places) × (x.seq < offers x.table))
    → ((t : ℕ) → o.offers t ≤ offers t)
    → ((q : ℕ) (x : Ticket) (a b : Job) → q ≢ p → q < count_places size → state ≡ Out x a → o.states q ≡ Out x b → ⊥)
    → ((x : Ticket) → finishes x (set s.views id w) ≤ 1)
    → ((x : Ticket) → offers x.table ≤ x.seq → finishes x (set s.views id w) ≡ 0)
    → Orderly size (board (set s.words (2 + p) n) (set s.homes p home) (set s.views id w))
at_place size s o id p n v w home state offers me near wide same mine others quiet stands unentered strange kept_finished owns more differs once offered =
    let ws : List ℕ = set s.words (2 + p) n in
    let roll : get_or ws 0 0 ≡ get_or s.words 0 0 = get_or-set_other s.words (2 + p) 0 n 0 (λ e. omega arith) in
    let halt : get_or ws 1 0 ≡ get_or s.words 1 0 = get_or-set_other s.words (2 + p) 1 n 0 (λ e. omega arith) in
    let long = o.sized in
    record {
      states = put o.states p state;
      offers = offers;
      sized = length-set s.words (2 + p) n ∙ o.sized;
      numbers = λ m. subst (λ (r : ℕ). (m < r → numbered m (set s.views id w) ≡ 1) × (r ≤ m → numbered m (set s.views id w) ≡ 0)) (sym roll)
          (subst (λ (c : ℕ). (m < get_or s.words 0 0 → c ≡ 1) × (get_or s.words 0 0 ≤ m → c ≡ 0)) (sym (numbered_same s.views id m v w me (same m))) (o.numbers m));
      seats = λ j u at. subst (λ (r : ℕ). Seated size (put o.states p state) offers r u) (sym halt)
          (⊎_elim (λ (t : (j ≡ id) × (w ≡ u)). subst (Seated size (put o.states p state) offers (get_or s.words 1 0)) t.1 mine)
          (λ (t : (j ≢ id) × (get_elem? s.views j ≡ some u)). others j u t.1 t.0) (at_set s.views id j w u at));
      unentered = λ t h. unentered t (subst (λ (r : ℕ). r ≤ t) roll h);
      strange = strange;
      unstopped = λ h. halt ∙ o.unstopped (subst (λ (r : ℕ). r ≤ size.tables + size.workers) roll h);
      places = λ q h. dite (ℕ_discrete q p)
          (λ e. let here : get_or ws (2 + q) 0 ≡ n = ap (λ (r : ℕ). get_or ws (2 + r) 0) e ∙ get_or-set_same s.words (2 + p) n 0 (omega arith) in
          subst (λ (r : ℕ). Standing (get_or ws (2 + r) 0) (get_elem? (set s.homes p home) r) (put o.states p state r) r (set s.views id w)) (sym e)
          (along n (get_or ws (2 + p) 0) (some home) (get_elem? (set s.homes p home) p) state (put o.states p state p) p (set s.views id w)
          (sym (get_or-set_same s.words (2 + p) n 0 (omega arith))) (sym (set_here s.homes p home (omega arith))) (sym (put_here o.states p p state refl)) stands))
          (λ ne. along (get_or s.words (2 + q) 0) (get_or ws (2 + q) 0) (get_elem? s.homes q) (get_elem? (set s.homes p home) q) (o.states q) (put o.states p state q) q (set s.views id w)
          (sym (get_or-set_other s.words (2 + p) (2 + q) n 0 (λ e. ne (omega arith)))) (sym (set_else s.homes p q home ne)) (sym (put_else o.states p q state ne))
          (still s.views id q (get_or s.words (2 + q) 0) v w (get_elem? s.homes q) (o.states q) me (quiet q ne).0 (quiet q ne).1 (λ x job l. kept_finished q x job ne h l) (o.places q h)));
      own = λ q x job h l. dite (ℕ_discrete q p)
          (λ e. subst (λ (r : ℕ). (x.table * size.places ≤ r) × (r < x.table * size.places + size.places) × (x.seq < offers x.table)) (sym e) (owns x job (sym (put_here o.states p q state e) ∙ l)))
          (λ ne. let t = o.own q x job h (sym (put_else o.states p q state ne) ∙ l) in let m = more x.table in (t.0, t.1, omega (arith, t.2)));
      differ = λ q r x a b h g l m. dite (ℕ_discrete q p)
          (λ e. dite (ℕ_discrete r p) (λ d. e ∙ sym d) (λ nd. absurd (differs r x a b nd g (sym (put_here o.states p q state e) ∙ l) (sym (put_else o.states p r state nd) ∙ m))))
          (λ ne. dite (ℕ_discrete r p) (λ d. absurd (differs q x b a ne h (sym (put_here o.states p r state d) ∙ m) (sym (put_else o.states p q state ne) ∙ l)))
          (λ nd. o.differ q r x a b h g (sym (put_else o.states p q state ne) ∙ l) (sym (put_else o.states p r state nd) ∙ m)));
      once = once;
      offered = offered;
    }

-- at most one seat has a number
alone : (size : BoardSize) (s : St) (o : Orderly size s) (m : ℕ) → numbered m s.views ≤ 1
alone size s o m = dite (dec_le (suc m) (get_or s.words 0 0)) (λ h. let e = (o.numbers m).0 h in omega arith) (λ h. let e = (o.numbers m).1 (omega arith) in omega arith)

pub below_roll : (size : BoardSize) (s : St) (o : Orderly size s) (id m : ℕ) (v : View) → get_elem? s.views id ≡ some v → has_number m v ≡ true → m < get_or s.words 0 0
below_roll size s o id m v me e = dite (dec_le (suc m) (get_or s.words 0 0)) (λ h. h)
    (λ h. let z = (o.numbers m).1 (omega arith) in let t = term_le (λ x. one_if (has_number m x)) s.views id v me in let y = one (has_number m v) e in absurd (omega arith))

pub apart_numbers : (size : BoardSize) (s : St) (o : Orderly size s) (i j m : ℕ) (v u : View) → j ≢ i → get_elem? s.views i ≡ some v → get_elem? s.views j ≡ some u → has_number m v ≡ true → has_number m u ≡ true → ⊥
apart_numbers size s o i j m v u ne at there e d =
    let t = terms_le (λ x. one_if (has_number m x)) s.views i j v u ne at there in let y = one (has_number m v) e in let z = one (has_number m u) d in let a = alone size s o m in omega arith

-- the view of table v with another state at k and m offers
abbrev pub changed : TableView → ℕ → PlaceState → ℕ → TableView
changed v k state m = record { number = v.number; base = v.base; states = set v.states k state; offers = m; lost = v.lost }

pub there_is : {A : Type 0} (l : List A) (i : ℕ) (a : A) → get_elem? l i ≡ some a → i < length l
there_is [] i a e = absurd (some-ne-none a (sym e))
there_is (x ∷ xs) zero a e = omega arith
there_is (x ∷ xs) (suc i) a e = let h = there_is xs i a e in omega arith

seated_along : (size : BoardSize) (states states' : ℕ → PlaceState) (offers : ℕ → ℕ) (halt : ℕ) (u : View) → ((q : ℕ) → states q ≡ states' q) → Seated size states offers halt u → Seated size states' offers halt u
seated_along size states states' offers halt (Entering about) e s = s
seated_along size states states' offers halt (Worker u) e s = s
seated_along size states states' offers halt (Stop u) e s = s
seated_along size states states' offers halt (Table u) e s = (s.0, s.1, s.2, (λ k l at. sym (e (u.base + k)) ∙ s.3 k l at), s.4)

-- the other seats see nothing of a table's step
others_at : (size : BoardSize) (s : St) (o : Orderly size s) (id k m : ℕ) (v : TableView) (state : PlaceState) → get_elem? s.views id ≡ some (Table v) → k < size.places → v.base ≡ v.number * size.places
    → (j : ℕ) (u : View) → get_elem? s.views j ≡ some u → j ≢ id → Seated size (put o.states (v.base + k) state) (put o.offers v.number m) (get_or s.words 1 0) u
others_at size s o id k m v state me hk base j (Entering about) at ne = o.seats j (Entering about) at
others_at size s o id k m v state me hk base j (Worker u) at ne = o.seats j (Worker u) at
others_at size s o id k m v state me hk base j (Stop u) at ne = o.seats j (Stop u) at
others_at size s o id k m v state me hk base j (Table u) at ne =
    let t = o.seats j (Table u) at in
    let differ : u.number ≢ v.number = λ e. apart_numbers size s o id j v.number (Table v) (Table u) ne me at (eq-eqb v.number v.number refl) (eq-eqb u.number v.number e) in (
      t.0,
      t.1,
      t.2,
      (λ i l e. let near : i < length u.states = there_is u.states i l e in
          put_else o.states (v.base + k) (u.base + i) state (λ d. apart u.number v.number size.places i k differ (omega arith) hk (ap (λ (r : ℕ). r + i) (sym t.1) ∙ (d ∙ ap (λ (r : ℕ). r + k) base))) ∙ t.3 i l e),
      t.4 ∙ sym (put_else o.offers v.number u.number m differ),
    )

-- a step of a table at its place k
pub table_step : (size : BoardSize) (s : St) (o : Orderly size s) (id k n m : ℕ) (v : TableView) (home : Option Content) (state old : PlaceState)
    → get_elem? s.views id ≡ some (Table v) → length s.homes ≡ count_places size → get_elem? v.states k ≡ some old → v.offers ≤ m
    → (holders (v.base + k) s.views ≡ 0 → Standing n (some home) state (v.base + k) (set s.views id (Table (changed v k state m))))
    → holders (v.base + k) s.views ≡ 0
    → ((x : Ticket) (job : Job) → state ≡ Out x job → (x.table ≡ v.number) × (v.offers ≤ x.seq) × (x.seq < m))
    → Orderly size (board (set s.words (2 + (v.base + k)) n) (set s.homes (v.base + k) home) (set s.views id (Table (changed v k state m))))
table_step size s o id k n m v home state old me wide at_k more stands free fits =
    let t = o.seats id (Table v) me in
    let hk : k < size.places = let near = there_is v.states k old at_k in omega arith in
    let p : ℕ = v.base + k in
    let near : p < count_places size = subst (λ (b : ℕ). b + k < count_places size) (sym t.1) (within v.number size.tables size.places k t.0 hk) in
    let others = others_at size s o id k m v state me hk t.1 in
    let low : v.number < get_or s.words 0 0 = below_roll size s o id v.number (Table v) me (eq-eqb v.number v.number refl) in
    let rise : (r : ℕ) → o.offers r ≤ put o.offers v.number m r = λ r. dite (ℕ_discrete r v.number)
    (λ e. let a = put_here o.offers v.number r m e in let b = ap o.offers e in let c = t.4 in omega arith) (λ ne. let a = put_else o.offers v.number r m ne in omega arith) in
    at_place size s o id p n (Table v) (Table (changed v k state m)) home state (put o.offers v.number m) me near wide (λ r. refl) (
      t.0,
      t.1,
      length-set v.states k state ∙ t.2,
      (λ i l e. ⊎_elim (λ (y : (i ≡ k) × (state ≡ l)). put_here o.states p (v.base + i) state (ap (λ (r : ℕ). v.base + r) y.0) ∙ y.1)
          (λ (y : (i ≢ k) × (get_elem? v.states i ≡ some l)). put_else o.states p (v.base + i) state (λ d. let ne = y.0 in ne (omega arith)) ∙ t.3 i l y.1) (at_set v.states k i state l e)),
      sym (put_here o.offers v.number v.number m refl),
    )
    others (λ q ne. (refl, refl)) (stands free)
    (λ r h. let ne : r ≢ v.number = λ e. omega arith in let u = o.unentered r h in
    (put_else o.offers v.number r m ne ∙ u.0, λ i hi. put_else o.states p (r * size.places + i) state (λ d. apart r v.number size.places i k ne hi hk (d ∙ ap (λ (b : ℕ). b + k) t.1)) ∙ u.1 i hi))
    (λ r h. put_else o.offers v.number r m (λ e. omega arith) ∙ o.strange r h)
    (λ q x job ne h l. refl)
    (λ x job l. let f = fits x job l in let b : x.table * size.places ≡ v.base = ap (λ (r : ℕ). r * size.places) f.0 ∙ sym t.1 in
    let c = put_here o.offers v.number x.table m f.0 in (omega (arith, b), omega (arith, b), omega (arith, c, f.2)))
    rise
    (λ q x a b ne h l e. let f = fits x a l in let w = o.own q x b h e in let c = ap o.offers f.0 in let d = t.4 in omega (arith, w.2, f.1))
    (λ x. let e = finishes_same s.views id x (Table v) (Table (changed v k state m)) me refl in let a = o.once x in omega arith)
    (λ x h. finishes_same s.views id x (Table v) (Table (changed v k state m)) me refl ∙ o.offered x (let r = rise x.table in omega arith))

-- a step of a worker at the place p, of which it may finish the ticket
pub worker_step : (size : BoardSize) (s : St) (o : Orderly size s) (id p n : ℕ) (v w : WorkerView) (home : Option Content)
    → get_elem? s.views id ≡ some (Worker v) → length s.homes ≡ count_places size → p < count_places size
    → (w.number ≡ v.number) × (w.knows_stop ≡ v.knows_stop)
    → ((q : ℕ) → q ≢ p → (is_at q v.held ≡ false) × (is_at q w.held ≡ false))
    → Standing n (some home) (o.states p) p (set s.views id (Worker w))
    → ((q : ℕ) (x : Ticket) (job : Job) → q ≢ p → q < count_places size → o.states q ≡ Out x job → times_listed x w.finished ≡ times_listed x v.finished)
    → ((x : Ticket) → (finishes x (set s.views id (Worker w)) ≤ 1) × (o.offers x.table ≤ x.seq → finishes x (set s.views id (Worker w)) ≡ 0))
    → Orderly size (board (set s.words (2 + p) n) (set s.homes p home) (set s.views id (Worker w)))
worker_step size s o id p n v w home me wide near same quiet stands kept_finished counts =
    let t = o.seats id (Worker v) me in
    let states_same : (q : ℕ) → put o.states p (o.states p) q ≡ o.states q = λ q. dite (ℕ_discrete q p) (λ e. put_here o.states p q (o.states p) e ∙ ap o.states (sym e)) (λ ne. put_else o.states p q (o.states p) ne) in
    at_place size s o id p n (Worker v) (Worker w) home (o.states p) o.offers me near wide (λ m. ap (λ (r : ℕ). eqb r m) same.0)
    (subst (λ (r : ℕ). size.tables ≤ r) (sym same.0) t.0, subst (λ (r : ℕ). r < size.tables + size.workers) (sym same.0) t.1, λ e. t.2 (sym same.1 ∙ e))
    (λ j u at ne. seated_along size o.states (put o.states p (o.states p)) o.offers (get_or s.words 1 0) u (λ q. sym (states_same q)) (o.seats j u at))
    quiet stands
    (λ r h. let u = o.unentered r h in (u.0, λ i hi. states_same (r * size.places + i) ∙ u.1 i hi))
    o.strange
    kept_finished
    (λ x job l. o.own p x job near l)
    (λ r. omega arith)
    (λ q x a b ne h l e. ne (o.differ q p x b a h near e l))
    (λ x. (counts x).0)
    (λ x. (counts x).1)

-- a step that touches no place
pub at_seat : (size : BoardSize) (s : St) (o : Orderly size s) (id : ℕ) (v w : View) (ws : List ℕ)
    → get_elem? s.views id ≡ some v → length ws ≡ length s.words → ((p : ℕ) → get_or ws (2 + p) 0 ≡ get_or s.words (2 + p) 0)
    → ((n : ℕ) → (n < get_or ws 0 0 → numbered n (set s.views id w) ≡ 1) × (get_or ws 0 0 ≤ n → numbered n (set s.views id w) ≡ 0))
    → Seated size o.states o.offers (get_or ws 1 0) w
    → ((j : ℕ) (u : View) → get_elem? s.views j ≡ some u → j ≢ id → Seated size o.states o.offers (get_or ws 1 0) u)
    → ((q : ℕ) → (holds_at q v ≡ false) × (holds_at q w ≡ false))
    → ((x : Ticket) → times_listed x (finished_of w) ≡ times_listed x (finished_of v))
    → get_or s.words 0 0 ≤ get_or ws 0 0
    → (get_or ws 0 0 ≤ size.tables + size.workers → get_or ws 1 0 ≡ 0)
    → Orderly size (board ws s.homes (set s.views id w))
at_seat size s o id v w ws me long same numbers mine others quiet fin grows unstopped = record {
  states = o.states;
  offers = o.offers;
  sized = long ∙ o.sized;
  numbers = numbers;
  seats = λ j u at. ⊎_elim (λ (t : (j ≡ id) × (w ≡ u)). subst (Seated size o.states o.offers (get_or ws 1 0)) t.1 mine)
      (λ (t : (j ≢ id) × (get_elem? s.views j ≡ some u)). others j u t.1 t.0) (at_set s.views id j w u at);
  unentered = λ t h. o.unentered t (omega arith);
  strange = o.strange;
  unstopped = unstopped;
  places = λ q h. along (get_or s.words (2 + q) 0) (get_or ws (2 + q) 0) (get_elem? s.homes q) (get_elem? s.homes q) (o.states q) (o.states q) q (set s.views id w) (sym (same q)) refl refl
      (still s.views id q (get_or s.words (2 + q) 0) v w (get_elem? s.homes q) (o.states q) me (quiet q).0 (quiet q).1 (λ x job l. fin x) (o.places q h));
  own = o.own;
  differ = o.differ;
  once = λ x. let e = finishes_same s.views id x v w me (fin x) in let a = o.once x in omega arith;
  offered = λ x h. finishes_same s.views id x v w me (fin x) ∙ o.offered x h;
}

-- no word changes, and the seat keeps its number
pub unmoved : (size : BoardSize) (s : St) (o : Orderly size s) (id i : ℕ) (v w : View) → get_elem? s.views id ≡ some v
    → ((n : ℕ) → has_number n w ≡ has_number n v)
    → Seated size o.states o.offers (get_or s.words 1 0) w
    → ((q : ℕ) → (holds_at q v ≡ false) × (holds_at q w ≡ false))
    → ((x : Ticket) → times_listed x (finished_of w) ≡ times_listed x (finished_of v))
    → Orderly size (board (set s.words i (get_or s.words i 0)) s.homes (set s.views id w))
unmoved size s o id i v w me same mine quiet fin = subst (λ (ws : List ℕ). Orderly size (board ws s.homes (set s.views id w))) (sym (set-get_or s.words i 0))
    (at_seat size s o id v w s.words me refl (λ p. refl)
    (λ n. subst (λ (c : ℕ). (n < get_or s.words 0 0 → c ≡ 1) × (get_or s.words 0 0 ≤ n → c ≡ 0)) (sym (numbered_same s.views id n v w me (same n))) (o.numbers n))
    mine (λ j u at ne. o.seats j u at) quiet fin (omega arith) o.unstopped)

-- What is known of a place by its word, by what its table's view lists, or by a worker that holds it
pub fresh_place : (word p : ℕ) (home : Option (Option Content)) (state : PlaceState) (vs : List View) → state ≡ Fresh → Standing word home state p vs → (home ≡ some (some Empty)) × (holders p vs ≡ 0)
fresh_place word p home state vs d (fresh e h l n) = (h, n)
fresh_place word p home state vs d (vacant e h l n) = let y : Vacant ≡ Fresh = sym l ∙ d in cc
fresh_place word p home state vs d (ready x job e h l n z) = let y : Out x job ≡ Fresh = sym l ∙ d in cc
fresh_place word p home state vs d (taken x job e h l n held z) = let y : Out x job ≡ Fresh = sym l ∙ d in cc
fresh_place word p home state vs d (done piece e h l n) = let y : Out piece.ticket piece.job ≡ Fresh = sym l ∙ d in cc

pub vacant_place : (word p : ℕ) (home : Option (Option Content)) (state : PlaceState) (vs : List View) → state ≡ Vacant → Standing word home state p vs → (home ≡ some none) × (holders p vs ≡ 0)
vacant_place word p home state vs d (fresh e h l n) = let y : Fresh ≡ Vacant = sym l ∙ d in cc
vacant_place word p home state vs d (vacant e h l n) = (h, n)
vacant_place word p home state vs d (ready x job e h l n z) = let y : Out x job ≡ Vacant = sym l ∙ d in cc
vacant_place word p home state vs d (taken x job e h l n held z) = let y : Out x job ≡ Vacant = sym l ∙ d in cc
vacant_place word p home state vs d (done piece e h l n) = let y : Out piece.ticket piece.job ≡ Vacant = sym l ∙ d in cc

pub ready_place : (word p : ℕ) (home : Option (Option Content)) (state : PlaceState) (vs : List View) → word ≡ 1 → Standing word home state p vs
    → (x : Ticket) × (job : Job) × (home ≡ some (some (Offer x job))) × (state ≡ Out x job) × (holders p vs ≡ 0) × (finishes x vs ≡ 0)
ready_place word p home state vs d (fresh e h l n) = absurd (omega arith)
ready_place word p home state vs d (vacant e h l n) = absurd (omega arith)
ready_place word p home state vs d (ready x job e h l n z) = (x, job, h, l, n, z)
ready_place word p home state vs d (taken x job e h l n held z) = absurd (omega arith)
ready_place word p home state vs d (done piece e h l n) = absurd (omega arith)

pub taken_place : (word p : ℕ) (home : Option (Option Content)) (state : PlaceState) (vs : List View) → 1 ≤ holders p vs → Standing word home state p vs
    → (x : Ticket) × (job : Job) × (state ≡ Out x job) × (holders p vs ≡ 1) × HeldWith p x job vs × (finishes x vs ≡ 0)
taken_place word p home state vs d (fresh e h l n) = absurd (omega arith)
taken_place word p home state vs d (vacant e h l n) = absurd (omega arith)
taken_place word p home state vs d (ready x job e h l n z) = absurd (omega arith)
taken_place word p home state vs d (taken x job e h l n held z) = (x, job, l, n, held, z)
taken_place word p home state vs d (done piece e h l n) = absurd (omega arith)

pub done_place : (word p : ℕ) (home : Option (Option Content)) (state : PlaceState) (vs : List View) → word ≡ 3 → Standing word home state p vs
    → (piece : Ticketed) × (home ≡ some (some (Done piece))) × (state ≡ Out piece.ticket piece.job) × (holders p vs ≡ 0)
done_place word p home state vs d (fresh e h l n) = absurd (omega arith)
done_place word p home state vs d (vacant e h l n) = absurd (omega arith)
done_place word p home state vs d (ready x job e h l n z) = absurd (omega arith)
done_place word p home state vs d (taken x job e h l n held z) = absurd (omega arith)
done_place word p home state vs d (done piece e h l n) = (piece, h, l, n)
