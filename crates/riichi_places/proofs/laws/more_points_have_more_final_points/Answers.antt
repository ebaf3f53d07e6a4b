use Rattle.riichi_places.proofs.Accepted.{accepted_bonuses_fall}
use Rattle.riichi_places.proofs.laws.more_points_have_more_final_points.Goals as goal

pub returns-clause-rules : goal.returns-clause-rules
returns-clause-rules c = accepted_bonuses_fall
