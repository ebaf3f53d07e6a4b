use Rattle.riichi_shape.proofs.FormLemmas.{special_distance}
use Rattle.riichi_shape.proofs.special.SpecialForms.distance.Goals as goal

pub returns : goal.returns
returns c = λ hand melds are. special_distance hand melds c.args.self.now c.min.result c.min.ensures are
