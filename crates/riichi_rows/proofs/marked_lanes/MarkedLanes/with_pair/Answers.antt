use Rattle.std.proofs.Common.{refl}
use Rattle.riichi_rows.proofs.MarkLemmas.{pair_marked, pair_sound}
use Rattle.riichi_rows.proofs.marked_lanes.MarkedLanes.with_pair.Goals as goal

pub invariant_of-result : goal.invariant_of-result
invariant_of-result c = record { sixteen = refl; sound = pair_sound c.args.self.lacks.lacks c.with_pair.result.lacks c.args.self.marks c.args.self.sixteen c.with_pair.ensures c.args.self.sound }

pub returns : goal.returns
returns c = pair_marked c.args.self.lacks.lacks c.with_pair.result.lacks c.args.self.marks c.args.self.sixteen c.with_pair.ensures
