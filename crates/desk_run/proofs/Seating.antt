-- What a table's seat has after each of its steps.
use Rattle.std.proofs.Common.{◌≡◌, ℕ, zero, suc, ◌+◌, ◌<◌, ◌≤◌, false, List, [], ◌∷◌, ◌++◌, length, set, get_or, sym, refl, ap, ◌∙◌, subst, arith, length-append, get_or-set_other, get_or-set_same, ◌*◌, replicate, suc-mul, mul-le-mul_right}
use Rattle.std.proofs.lemmas.List.{append-nil}
use mathlib.Core.Option.{some}
use lib.ListN.{get_elem?}
use Rattle.atomic_table.specs.Table.{rest}
use Rattle.desk_core.specs.LaneState.{LaneState, with_job, new_lane}
use Rattle.desk_run.specs.LanePlaces.{count_accepted}
use Rattle.desk_run.specs.Plays.{SeatState, table_seen}
use Rattle.atomic_table.specs.Seated.{TableId}
use Rattle.desk_run.specs.Sitting.{Sits, IsTableSeat, carried_by, Receives, AreFetched, Collects, out_places, place_if_out}
use Rattle.desk_run.proofs.LanePlaces.{received_offers}
use Rattle.desk_run.specs.Views.{new_table, with_state, offering}
use Rattle.desk_core.specs.declared.ticket.Ticket.{Ticket}
use Rattle.riichi_hand.specs.declared.job.Job.{Job}
use Rattle.desk_core.specs.Ticketed.{Ticketed}
use Rattle.desk_run.specs.declared.content.Content.{Content}
use Rattle.desk_run.specs.declared.content.Content.TheVariants.{Empty}
use Rattle.desk_run.specs.declared.size.BoardSize.{BoardSize}
use Rattle.desk_run.specs.declared.place_state.PlaceState.{PlaceState}
use Rattle.desk_run.specs.declared.place_state.PlaceState.TheVariants.{Fresh, Vacant, Out}
use Rattle.desk_run.specs.declared.view.TableView.{TableView}
use Rattle.desk_run.specs.declared.view.View.{View}
use Rattle.desk_run.specs.declared.view.View.TheVariants.{Table}

carried_push : (base k : ℕ) (ls : List ℕ) → carried_by base (ls ++ k ∷ []) ≡ (base + k, Empty) ∷ carried_by base ls
carried_push base k [] = refl
carried_push base k (x ∷ xs) = ap (λ (l : List (ℕ × Content)). l ++ (base + x, Empty) ∷ []) (carried_push base k xs)

table_at : (v : View) (w : TableView) → v ≡ Table w → v ≡ Table (table_seen v)
table_at v w e = e ∙ sym (ap (λ (u : View). Table (table_seen u)) e)

pub front_carried : (m : SeatState) (base : ℕ) (lane : LaneState) (states : List PlaceState) (ks ls : List ℕ) (k : ℕ) → Sits m base lane states ks → ks ≡ ls ++ k ∷ [] → m.1 ≡ (base + k, Empty) ∷ carried_by base ls
front_carried m base lane states ks ls k s e = s.carried ∙ ap (carried_by base) e ∙ carried_push base k ls

pub front_rest : (m : SeatState) (base : ℕ) (lane : LaneState) (states : List PlaceState) (ks ls : List ℕ) (k : ℕ) → Sits m base lane states ks → ks ≡ ls ++ k ∷ [] → m.1 ≡ (base + k, Empty) ∷ rest m.1
front_rest m base lane states ks ls k s e = let f = front_carried m base lane states ks ls k s e in f ∙ ap (λ (l : List (ℕ × Content)). (base + k, Empty) ∷ l) (sym (ap rest f))

one_more : (lane : LaneState) (job : Job) → count_accepted (with_job lane job) ≡ count_accepted lane + 1
one_more lane job = let n : ℕ = lane.next in omega (arith, length-append lane.window ((job, false) ∷ []))

pub sits_offered : (m n : SeatState) (base : ℕ) (lane new : LaneState) (states more : List PlaceState) (ks ls : List ℕ) (k : ℕ) (x : Ticket) (job : Job) → Sits m base lane states ks → ks ≡ ls ++ k ∷ []
    → n ≡ (Table (offering (table_seen m.0) k x job), rest m.1) → more ≡ set states k (Out x job) → new ≡ with_job lane job → Sits n base new more ls
sits_offered m n base lane new states more ks ls k x job s e is l o = let v : TableView = table_seen m.0 in let w : TableView = offering v k x job in
    let same : table_seen n.0 ≡ w = ap (λ (z : SeatState). table_seen z.0) is in record {
      is_table = table_at n.0 w (ap (λ (z : SeatState). z.0) is);
      number = ap (λ (z : TableView). z.number) same ∙ s.number ∙ sym (ap (λ (z : LaneState). z.table) o);
      base_is = ap (λ (z : TableView). z.base) same ∙ s.base_is;
      states_are = ap (λ (z : TableView). z.states) same ∙ ap (λ (z : List PlaceState). set z k (Out x job)) s.states_are ∙ sym l;
      offers = ap (λ (z : TableView). z.offers) same ∙ ap (λ (z : ℕ). z + 1) s.offers ∙ sym (ap count_accepted o ∙ one_more lane job);
      carried = ap (λ (z : SeatState). z.1) is ∙ ap rest (front_carried m base lane states ks ls k s e);
    }

pub sits_vacant : (m n : SeatState) (base : ℕ) (lane new : LaneState) (states more : List PlaceState) (ks ls : List ℕ) (k : ℕ) → Sits m base lane states ks → ls ≡ ks ++ k ∷ []
    → n ≡ (Table (with_state (table_seen m.0) k Vacant), (base + k, Empty) ∷ m.1) → more ≡ set states k Vacant → new.table ≡ lane.table → count_accepted new ≡ count_accepted lane → Sits n base new more ls
sits_vacant m n base lane new states more ks ls k s e is l q o = let v : TableView = table_seen m.0 in let w : TableView = with_state v k Vacant in
    let same : table_seen n.0 ≡ w = ap (λ (z : SeatState). table_seen z.0) is in record {
      is_table = table_at n.0 w (ap (λ (z : SeatState). z.0) is);
      number = ap (λ (z : TableView). z.number) same ∙ s.number ∙ sym q;
      base_is = ap (λ (z : TableView). z.base) same ∙ s.base_is;
      states_are = ap (λ (z : TableView). z.states) same ∙ ap (λ (z : List PlaceState). set z k Vacant) s.states_are ∙ sym l;
      offers = ap (λ (z : TableView). z.offers) same ∙ s.offers ∙ sym o;
      carried = ap (λ (z : SeatState). z.1) is ∙ ap (λ (z : List (ℕ × Content)). (base + k, Empty) ∷ z) s.carried ∙ sym (ap (carried_by base) e ∙ carried_push base k ks);
    }

pub sits_fetched : (m n : SeatState) (base : ℕ) (lane new : LaneState) (states more : List PlaceState) (ks ls : List ℕ) (k : ℕ) (piece : Ticketed) → Sits m base lane states ks → ls ≡ ks ++ k ∷ []
    → n ≡ (Table (with_state (table_seen m.0) k Vacant), (base + k, Empty) ∷ m.1) → more ≡ set states k Vacant → Receives lane piece new → Sits n base new more ls
sits_fetched m n base lane new states more ks ls k piece s e is l r = let o = received_offers lane new piece r in
    sits_vacant m n base lane new states more ks ls k s e is l o.0 o.1

-- the seat where only the lane has changed
pub sits_with : (m : SeatState) (base : ℕ) (lane new : LaneState) (states more : List PlaceState) (ks ls : List ℕ) → Sits m base lane states ks → new.table ≡ lane.table → count_accepted new ≡ count_accepted lane → more ≡ states → ls ≡ ks
    → Sits m base new more ls
sits_with m base lane new states more ks ls s q o l e = record {
  is_table = s.is_table;
  number = s.number ∙ sym q;
  base_is = s.base_is;
  states_are = s.states_are ∙ sym l;
  offers = s.offers ∙ sym o;
  carried = s.carried ∙ sym (ap (carried_by base) e);
}

pub one_collected : (lane new : LaneState) (k : ℕ) (old more : List PlaceState) (piece : Ticketed) → get_elem? old k ≡ some (Out piece.ticket piece.job) → Receives lane piece new
    → more ≡ set old k Vacant → Collects 1 lane old new more
one_collected lane new k old more piece out received l = (piece ∷ [], refl, (k, new, out, received, (refl, l)))

fetched-append : (ps qs : List Ticketed) (a b c : LaneState) (x y z : List PlaceState) → AreFetched ps a x b y → AreFetched qs b y c z → AreFetched (ps ++ qs) a x c z
fetched-append [] qs a b c x y z f g = subst (λ (l : LaneState). AreFetched qs l x c z) f.0 (subst (λ (l : List PlaceState). AreFetched qs b l c z) f.1 g)
fetched-append (p ∷ ps) qs a b c x y z f g = (f.0, f.1, f.2, f.3, fetched-append ps qs f.1 b c (set x f.0 Vacant) y z f.4 g)

pub collects_more : (n : ℕ) (a b c : LaneState) (x y z : List PlaceState) → Collects n a x b y → Collects 1 b y c z → Collects (n + 1) a x c z
collects_more n a b c x y z f g = let l = f.1 in let m = g.1 in (f.0 ++ g.0, omega (arith, length-append f.0 g.0), fetched-append f.0 g.0 a b c x y z f.2 g.2)

unchanged_below : (base : ℕ) (states : List PlaceState) (k n : ℕ) (state : PlaceState) → n ≤ k → out_places base (set states k state) n ≡ out_places base states n
unchanged_below base states k zero state h = refl
unchanged_below base states k (suc n) state h = ap (λ (l : List ℕ). l ++ place_if_out (base + n) (get_or (set states k state) n Fresh)) (unchanged_below base states k n state (omega arith))
    ∙ ap (λ (x : PlaceState). out_places base states n ++ place_if_out (base + n) x) (get_or-set_other states k n state Fresh (λ e. omega arith))

pub more_out : (base : ℕ) (states : List PlaceState) (n : ℕ) → out_places base states (n + 1) ≡ out_places base states n ++ place_if_out (base + n) (get_or states n Fresh)
more_out base states n = let e : n + 1 ≡ suc n = omega arith in ap (λ (m : ℕ). out_places base states m) e

pub fetched_out : (base : ℕ) (states : List PlaceState) (k : ℕ) → k < length states → out_places base (set states k Vacant) (k + 1) ≡ out_places base states k
fetched_out base states k h = more_out base (set states k Vacant) k ∙ ap (λ (x : PlaceState). out_places base (set states k Vacant) k ++ place_if_out (base + k) x) (get_or-set_same states k Vacant Fresh h)
    ∙ append-nil (out_places base (set states k Vacant) k) ∙ unchanged_below base states k k Vacant (omega arith)

pub sits_new : (m n : SeatState) (t : ℕ) (lane : LaneState) (size : BoardSize) (states : List PlaceState) (ks : List ℕ) → m.1 ≡ [] → n ≡ (Table (new_table t size), m.1) → states ≡ replicate size.places Fresh → ks ≡ [] → lane ≡ new_lane t
    → Sits n (t * size.places) lane states ks
sits_new m n t lane size states ks none is l e new = let w : TableView = new_table t size in let same : table_seen n.0 ≡ w = ap (λ (z : SeatState). table_seen z.0) is in record {
  is_table = table_at n.0 w (ap (λ (z : SeatState). z.0) is);
  number = ap (λ (z : TableView). z.number) same ∙ sym (ap (λ (z : LaneState). z.table) new);
  base_is = ap (λ (z : TableView). z.base) same;
  states_are = ap (λ (z : TableView). z.states) same ∙ sym l;
  offers = ap (λ (z : TableView). z.offers) same ∙ sym (ap count_accepted new);
  carried = ap (λ (z : SeatState). z.1) is ∙ none ∙ sym (ap (carried_by (t * size.places)) e);
}

-- the seat after a step of it at its board
pub seat_on : (board same : TableId) (m n : SeatState) (base : ℕ) (lane new : LaneState) (states more : List PlaceState) (ks ls : List ℕ) → IsTableSeat board m base lane states ks → same ≡ board → length more ≡ length states → Sits n base new more ls
    → IsTableSeat same n base new more ls
seat_on board same m n base lane new states more ks ls i e l s = subst (λ (id : TableId). IsTableSeat id n base new more ls) (sym e) (record { near = let a = i.near in omega arith; few = i.few; sits = s })

-- a table's places are on its board
pub all_near : (number tables places slots base count : ℕ) → number < tables → slots ≡ tables * places → base ≡ number * places → count ≡ places → base + count ≤ slots
all_near number tables places slots base count h s b c = let e : suc number * places ≤ tables * places = mul-le-mul_right places (omega arith) in let f : suc number * places ≡ number * places + places = suc-mul number places in omega arith
