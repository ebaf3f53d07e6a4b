use Rattle.desk_run.proofs.LanePlaces.{withdrawn_as}
use Rattle.desk_run.proofs.lane_places.LanePlaces.withdraw.Goals as goal

pub invariant_of-self : goal.invariant_of-self
invariant_of-self c = let b = c.args.self.now in let w = c.withdraw.ensures in record {
  room = b.room;
  agrees = withdrawn_as b.lane c.withdraw.new.self b.states.items b.vacant.items c.args.seq c.withdraw.result b.agrees w.done w.not w.err;
}
