use Rattle.std.proofs.Common.{◌≡◌, ap, ◌∙◌, subst, arith, length, length-set, set, List}
use lib.ListN.{get_elem?}
use Rattle.atomic_table.proofs.Lists.{at_index}
use Rattle.desk_run.specs.Plays.{SeatState, table_seen}
use Rattle.desk_run.specs.SeatStates.{TableState}
use Rattle.desk_run.specs.Sitting.{Collects}
use Rattle.desk_run.specs.declared.place_state.PlaceState.{PlaceState}
use Rattle.desk_run.specs.declared.place_state.PlaceState.TheVariants.{Vacant}
use Rattle.desk_run.proofs.Seating.{sits_fetched, one_collected, seat_on}
use Rattle.desk_run.proofs.table_seat.TableSeat.fetch_at.Goals as goal

pub fetch-requires-clause-state : goal.fetch-requires-clause-state
fetch-requires-clause-state c = let b = c.self.inside in let v = ap (λ (s : TableState). length s.states) c.self.view_is in let h = c.requires.near in
    (c.index.result.now, ap (λ (l : List PlaceState). get_elem? l c.args.offset) c.self.invariant.sits.states_are ∙ at_index b.own.states.items c.args.offset c.index.result.now (omega arith) c.index.ensures)

pub take_in-requires-clause-fetched : goal.take_in-requires-clause-fetched
take_in-requires-clause-fetched c = (c.self.inside.seat.me, c.fetch.ensures.done c.if-not-fetch.false, c.self.invariant.sits.states_are)

pub invariant_of-self-2 : goal.invariant_of-self-2
invariant_of-self-2 c = let b = c.self.inside in let t = c.take_in.ensures in
    seat_on b.seat.table_id _ b.seat.me _ _ b.own.lane _ b.own.states.items _ b.own.vacant.items _ c.self.invariant (t.id ∙ c.fetch.ensures.id)
    (ap (λ (l : List PlaceState). length l) t.states.0 ∙ length-set b.own.states.items c.args.offset Vacant)
    (sits_fetched b.seat.me _ _ b.own.lane _ _ _ _ _ _ t.taken.0 c.self.invariant.sits t.states.1 (t.me b.seat.me (c.fetch.ensures.done c.if-not-fetch.false)) t.states.0 t.taken.2)

pub returns-clause-fetched : goal.returns-clause-fetched
returns-clause-fetched c _ = let b = c.self.inside in let t = c.take_in.ensures in let new = c.take_in.new.own in
    subst (λ (s : TableState). Collects 1 s.lane s.states new.lane new.states.items × (new.states.items ≡ set s.states c.args.offset Vacant) × ((table_seen c.take_in.new.seat.me.0).lost ≡ s.lost)) c.self.view_is (
      one_collected b.own.lane _ c.args.offset _ _ t.taken.0 t.taken.1 t.taken.2 t.states.0,
      t.states.0,
      ap (λ (m : SeatState). (table_seen m.0).lost) (t.me b.seat.me (c.fetch.ensures.done c.if-not-fetch.false)),
    )
