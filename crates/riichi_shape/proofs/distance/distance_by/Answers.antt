use Rattle.std.proofs.Common.{◌-◌, arith}
use Rattle.riichi_shape.proofs.Distances.{least_beside}
use Rattle.riichi_shape.proofs.KeptJoins.{least_by_rows}
use Rattle.riichi_shape.proofs.Nearer.{distance_by, distance_few}
use Rattle.riichi_shape.proofs.Uniqueness.{distance_is}
use Rattle.riichi_shape.proofs.distance.distance_by.Goals as goal

pub returns-clause-least : goal.returns-clause-least
returns-clause-least c =
    let hand = c.args.hand.now in
    let melds = c.args.melds.now in
    let least = least_by_rows hand melds c.args.rows.now c.requires.rows c.requires.melded (4 - c.count.result) (omega arith) c.join_rows.result c.join_rows.ensures in
    distance_by hand melds c.count.ensures.melds.at_most_four c.requires.melded c.join_rows.result (least_beside hand melds c.count.result c.join_rows.result c.count.ensures.value least)
    c.distance.result c.min.result (c.distance.ensures hand melds c.new.ensures) (omega (arith, c.min.ensures, c.unwrap_or-standard.ensures))

pub returns-clause-value : goal.returns-clause-value
returns-clause-value c = distance_is c.args.hand.now c.args.melds.now c.min.result (returns-clause-least c)

pub returns-clause-few : goal.returns-clause-few
returns-clause-few c = distance_few c.args.hand.now c.args.melds.now c.count.ensures.melds.at_most_four c.requires.melded c.min.result (returns-clause-least c)
