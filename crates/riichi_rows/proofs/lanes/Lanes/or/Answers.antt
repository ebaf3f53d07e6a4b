use Rattle.riichi_rows.proofs.LaneLemmas.{length_lesser, lesser_lanes}
use Rattle.riichi_rows.proofs.lanes.Lanes.or.Goals as goal

pub invariant_of-result : goal.invariant_of-result
invariant_of-result c = record { sixteen = length_lesser _ _ c.args.self.sixteen c.args.other.sixteen }

pub returns : goal.returns
returns c = lesser_lanes _ _ c.args.self.sixteen c.args.other.sixteen
