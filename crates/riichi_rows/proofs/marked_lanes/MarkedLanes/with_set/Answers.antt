use Rattle.std.proofs.Common.{refl}
use Rattle.riichi_rows.proofs.MarkLemmas.{set_marked, set_sound}
use Rattle.riichi_rows.proofs.marked_lanes.MarkedLanes.with_set.Goals as goal

pub invariant_of-result : goal.invariant_of-result
invariant_of-result c = record { sixteen = refl; sound = set_sound c.args.self.lacks.lacks c.with_set.result.lacks c.args.self.marks c.args.self.sixteen c.with_set.ensures c.args.self.sound }

pub returns : goal.returns
returns c = set_marked c.args.self.lacks.lacks c.with_set.result.lacks c.args.self.marks c.args.self.sixteen c.with_set.ensures
