use Rattle.riichi_shape.proofs.OneMore.{by_forms}
use Rattle.riichi_shape.proofs.laws.forms.Goals as goal

pub returns : goal.returns
returns c = by_forms
