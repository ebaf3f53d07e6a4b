use Rattle.std.proofs.Common.{Some, None, arith}
use Rattle.riichi_shape.proofs.Distances.{never_none, standard_few, low_distance, whole_distance, least_beside}
use Rattle.riichi_shape.proofs.Uniqueness.{distance_is}
use Rattle.riichi_shape.proofs.distance.distance_with.Goals as goal

pub unreachable-requires : goal.unreachable-requires
unreachable-requires c =
    let hand = c.args.hand.now in
    let melds = c.args.melds.now in
    never_none hand melds c.count-melded.ensures.melds.at_most_four c.requires.melded (least_beside hand melds c.count-melded.result None c.count-melded.ensures.value (λ wanted is four. c.in_default.ensures hand melds c.requires.joins c.requires.melded c.requires.row wanted is four))

pub returns-then-standard-floor-clause-value : goal.returns-then-standard-floor-clause-value
returns-then-standard-floor-clause-value c =
    let hand = c.args.hand.now in
    let melds = c.args.melds.now in
    let least = least_beside hand melds c.count-melded.result (Some c.in-Some.standard) c.count-melded.ensures.value (c.in-Some.ensures c.args.hand.now c.args.melds.now c.requires.joins c.requires.melded c.requires.row) in
    distance_is hand melds c.in-Some.standard (low_distance hand melds c.count-melded.ensures.melds.at_most_four c.requires.melded c.in-Some.standard least c.args.floor c.requires.floor c.if-standard-floor.true)

pub returns-then-standard-floor-clause-few : goal.returns-then-standard-floor-clause-few
returns-then-standard-floor-clause-few c =
    standard_few c.args.hand.now c.args.melds.now c.count-melded.ensures.melds.at_most_four c.requires.melded c.in-Some.standard
    (least_beside c.args.hand.now c.args.melds.now c.count-melded.result (Some c.in-Some.standard) c.count-melded.ensures.value (c.in-Some.ensures c.args.hand.now c.args.melds.now c.requires.joins c.requires.melded c.requires.row))

pub returns-else-standard-floor-clause-value : goal.returns-else-standard-floor-clause-value
returns-else-standard-floor-clause-value c =
    let hand = c.args.hand.now in
    let melds = c.args.melds.now in
    let least = least_beside hand melds c.count-melded.result (Some c.in-Some.standard) c.count-melded.ensures.value (c.in-Some.ensures c.args.hand.now c.args.melds.now c.requires.joins c.requires.melded c.requires.row) in
    distance_is hand melds c.min.result (whole_distance hand melds c.count-melded.ensures.melds.at_most_four c.requires.melded c.in-Some.standard least c.distance.result c.min.result (c.distance.ensures hand melds c.new.ensures) c.min.ensures)

pub returns-else-standard-floor-clause-few : goal.returns-else-standard-floor-clause-few
returns-else-standard-floor-clause-few c =
    let few = standard_few c.args.hand.now c.args.melds.now c.count-melded.ensures.melds.at_most_four c.requires.melded c.in-Some.standard
    (least_beside c.args.hand.now c.args.melds.now c.count-melded.result (Some c.in-Some.standard) c.count-melded.ensures.value (c.in-Some.ensures c.args.hand.now c.args.melds.now c.requires.joins c.requires.melded c.requires.row)) in
    omega (arith, few, c.min.ensures)
