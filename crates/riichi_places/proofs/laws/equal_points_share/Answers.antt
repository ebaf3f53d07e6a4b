use Rattle.riichi_places.proofs.Level.{equal_points_share}
use Rattle.riichi_places.proofs.laws.equal_points_share.Goals as goal

pub returns : goal.returns
returns c = equal_points_share
