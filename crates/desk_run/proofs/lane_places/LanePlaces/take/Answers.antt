use Rattle.desk_run.proofs.LanePlaces.{given_as}
use Rattle.desk_run.proofs.lane_places.LanePlaces.take.Goals as goal

pub invariant_of-self : goal.invariant_of-self
invariant_of-self c = let b = c.args.self.now in record {
  room = b.room;
  agrees = given_as b.lane c.take.new.self b.states.items b.vacant.items c.take.result b.agrees c.take.ensures.first;
}
