use Rattle.riichi_shape.proofs.FourSuits.{join_lacks}
use Rattle.riichi_shape.proofs.laws.joins.Goals as goal

pub returns : goal.returns
returns c = λ hand melds counts caps suits rows are sets n x few melds_few join inside. join_lacks hand melds counts caps suits rows are sets few melds_few n join x inside
