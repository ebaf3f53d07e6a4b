use Rattle.std.proofs.Common.{arith, sym, ap, subst, set}
use Rattle.desk_run.specs.LanePlaces.{Agrees}
use Rattle.desk_run.specs.declared.place_state.PlaceState.{PlaceState}
use Rattle.desk_run.specs.declared.place_state.PlaceState.TheVariants.{Vacant}
use Rattle.desk_run.proofs.Moves.{there_is}
use Rattle.desk_run.proofs.LanePlaces.{submitted_as, last_vacant}
use Rattle.desk_run.proofs.lane_places.LanePlaces.submit.Goals as goal

pub index_mut-requires : goal.index_mut-requires
index_mut-requires c = let b = c.args.self.now in let e = last_vacant _ _ _ _ _ b.agrees c.take_last-offset.ensures.items in let h = there_is b.states.items c.take_last-offset.result Vacant e in omega arith

pub invariant_of-self-2-clause-agrees : goal.invariant_of-self-2-clause-agrees
invariant_of-self-2-clause-agrees c = let b = c.args.self.now in
    subst (λ (state : PlaceState). Agrees c.submit.new.self (set b.states.items c.take_last-offset.result state) c.take_last-offset.new.self.items) (sym c.out.ensures)
    (submitted_as b.lane _ _ b.states.items b.vacant.items _ _ _ b.agrees c.take_last-offset.ensures.items c.in-Ok.ensures.ticket c.in-Ok.ensures.ok)

pub returns-clause-states : goal.returns-clause-states
returns-clause-states c = let b = c.args.self.now in (last_vacant _ _ _ _ _ b.agrees c.take_last-offset.ensures.items, ap (λ (state : PlaceState). set b.states.items c.take_last-offset.result state) c.out.ensures, c.take_last-offset.ensures.items)
