use Rattle.std.proofs.Common.{arith}
use Rattle.riichi_rows.proofs.LaneLemmas.{length_raised, raised_lanes}
use Rattle.riichi_rows.proofs.lanes.Lanes.lacking.Goals as goal

pub invariant_of-result : goal.invariant_of-result
invariant_of-result c = record { sixteen = length_raised c.or-kept.result.lacks c.args.tiles c.or-kept.result.sixteen }

pub returns : goal.returns
returns c = raised_lanes c.args.self.lacks c.or-kept.result.lacks c.args.tiles (omega arith) c.or-kept.result.sixteen c.or-kept.ensures
