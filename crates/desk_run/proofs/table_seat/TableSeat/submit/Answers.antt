use Rattle.std.proofs.Common.{ap, ◌∙◌, sym, length, length-set, set, List}
use lib.ListN.{get_elem?}
use Rattle.desk_run.specs.SeatStates.{TableState}
use Rattle.desk_run.specs.declared.place_state.PlaceState.{PlaceState}
use Rattle.desk_run.specs.declared.place_state.PlaceState.TheVariants.{Out}
use Rattle.desk_run.proofs.Seating.{front_rest, sits_offered, seat_on}
use Rattle.desk_run.proofs.table_seat.TableSeat.submit.Goals as goal

pub offer-requires-clause-front : goal.offer-requires-clause-front
offer-requires-clause-front c = let b = c.self.inside in front_rest b.seat.me _ b.own.lane _ _ _ _ c.self.invariant.sits c.in-Ok.ensures.states.2

pub invariant_of-self-in-Ok : goal.invariant_of-self-in-Ok
invariant_of-self-in-Ok c = let b = c.self.inside in
    seat_on b.seat.table_id _ b.seat.me _ _ b.own.lane _ b.own.states.items _ b.own.vacant.items _ c.self.invariant c.offer.ensures.id
    (ap (λ (l : List PlaceState). length l) c.in-Ok.ensures.states.1 ∙ length-set b.own.states.items c.in-Ok.offset (Out c.in-Ok.ticket c.args.job))
    (sits_offered b.seat.me _ _ b.own.lane _ _ _ _ _ _ _ _ c.self.invariant.sits c.in-Ok.ensures.states.2 c.offer.ensures.me c.in-Ok.ensures.states.1 c.in-Ok.ensures.lane)

pub returns-in-Ok-clause-place : goal.returns-in-Ok-clause-place
returns-in-Ok-clause-place c = let v = ap (λ (s : TableState). s.states) c.self.view_is in (
  c.in-Ok.offset,
  ap (λ (l : List PlaceState). get_elem? l c.in-Ok.offset) (sym v) ∙ c.in-Ok.ensures.states.0,
  c.in-Ok.ensures.states.1 ∙ ap (λ (l : List PlaceState). set l c.in-Ok.offset (Out c.in-Ok.ticket c.args.job)) v,
)
