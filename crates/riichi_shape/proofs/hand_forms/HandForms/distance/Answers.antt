use Rattle.std.proofs.Common.{◌-◌, arith}
use Rattle.riichi_shape.proofs.Distances.{least_beside}
use Rattle.riichi_shape.proofs.KeptJoins.{least_by_forms}
use Rattle.riichi_shape.proofs.Nearer.{distance_by, distance_few}
use Rattle.riichi_shape.proofs.Uniqueness.{distance_is}
use Rattle.riichi_shape.proofs.hand_forms.HandForms.distance.Goals as goal

pub returns-clause-least : goal.returns-clause-least
returns-clause-least c = λ hand are.
    (let melds = c.args.melds.now in
    let least = least_by_forms hand melds c.args.self.now are c.requires (4 - c.count.result) (omega arith) c.with-standard.result c.with-standard.ensures in
    distance_by hand melds c.count.ensures.melds.at_most_four c.requires c.with-standard.result (least_beside hand melds c.count.result c.with-standard.result c.count.ensures.value least)
    c.distance.result c.min.result (c.distance.ensures hand melds are.special) (omega (arith, c.min.ensures, c.unwrap_or.ensures)))

pub returns-clause-value : goal.returns-clause-value
returns-clause-value c = λ hand are. distance_is hand c.args.melds.now c.min.result (returns-clause-least c hand are)

pub returns-clause-few : goal.returns-clause-few
returns-clause-few c = λ hand are. distance_few hand c.args.melds.now c.count.ensures.melds.at_most_four c.requires c.min.result (returns-clause-least c hand are)
