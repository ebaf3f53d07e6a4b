use Rattle.std.proofs.Common.{arith}
use Rattle.desk_run.specs.declared.place_state.PlaceState.TheVariants.{Out}
use Rattle.desk_run.proofs.Moves.{there_is}
use Rattle.desk_run.proofs.LanePlaces.{received_as, receives, has_room}
use Rattle.desk_run.proofs.lane_places.LanePlaces.receive.Goals as goal

pub index_mut-requires : goal.index_mut-requires
index_mut-requires c = let b = c.args.self.now in let h = there_is b.states.items c.args.offset (Out c.args.piece.ticket c.args.piece.job) c.requires in omega arith

pub push_reserved-requires : goal.push_reserved-requires
push_reserved-requires c = let b = c.args.self.now in let r = b.room in let h = has_room _ _ b.states.items b.vacant.items _ _ b.agrees c.requires in omega arith

pub invariant_of-self-clause-agrees : goal.invariant_of-self-clause-agrees
invariant_of-self-clause-agrees c = let b = c.args.self.now in let a = c.arrive.ensures in let x = c.args.piece.ticket in let own = (b.agrees.own c.args.offset x c.args.piece.job c.requires).0 in
    received_as b.lane _ _ b.states.items b.vacant.items _ c.args.piece c.requires b.agrees
    (receives b.lane c.arrive.new.self c.args.piece c.arrive.result (b.agrees.pending c.args.offset x c.args.piece.job c.requires) (a.step own) (a.withdrawn own).1 a.awaited a.accepted a.kept) c.push_reserved.ensures.items

pub returns-clause-lane : goal.returns-clause-lane
returns-clause-lane c = let b = c.args.self.now in let a = c.arrive.ensures in let x = c.args.piece.ticket in let own = (b.agrees.own c.args.offset x c.args.piece.job c.requires).0 in
    receives b.lane c.arrive.new.self c.args.piece c.arrive.result (b.agrees.pending c.args.offset x c.args.piece.job c.requires) (a.step own) (a.withdrawn own).1 a.awaited a.accepted a.kept
