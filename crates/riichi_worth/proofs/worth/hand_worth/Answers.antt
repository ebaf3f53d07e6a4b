use Rattle.std.proofs.Common.{◌≡◌, ◌≤◌, length, refl, sym, ap, ◌∙◌, arith}
use Rattle.riichi_chances.specs.Graph.{most_hands_in, placed_hand}
use Rattle.riichi_chances.specs.Reachable.{by_itself}
use Rattle.riichi_chances.proofs.ChancesLemmas.{placed}
use Rattle.riichi_chances.proofs.ReachableLemmas.{alone_comes, alone_few, more_as, none_within, on_err}
use Rattle.riichi_worth.proofs.DiscardLemmas.{hand_few, hand_told}
use Rattle.riichi_worth.proofs.worth.hand_worth.Goals as goal

pub place_of-requires-clause-graph : goal.place_of-requires-clause-graph
place_of-requires-clause-graph g c = c.new-graph.ensures.graph c.args.asked.now

pub worth_at-requires-clause-few : goal.worth_at-requires-clause-few
worth_at-requires-clause-few g c =
    let asked = c.args.asked.now in
    let graph = c.place_of.new.graph in
    hand_few c.args.stakes.now asked (c.unseen_tiles-unseen.ensures.thirteen c.requires.thirteen) c.unseen_tiles-unseen.result c.args.turns c.unseen_tiles-unseen.ensures.value graph c.in_ok-place.place c.in_ok-place.ensures.place _ c.put_points.ensures.are

pub returns-clause-worth : goal.returns-clause-worth
returns-clause-worth g c =
    let asked = c.args.asked.now in
    let graph = c.place_of.new.graph in
    c.worth_at.ensures ∙ hand_told c.args.stakes.now asked (c.unseen_tiles-unseen.ensures.thirteen c.requires.thirteen) c.unseen_tiles-unseen.result c.args.turns c.unseen_tiles-unseen.ensures.value graph c.in_ok-place.place c.in_ok-place.ensures.place _ c.put_points.ensures.are

pub returns-clause-few : goal.returns-clause-few
returns-clause-few g c = alone_few c.args.asked.now c.place_of.new.graph c.in_ok-place.place (most_hands_in (length c.args.places.now) (length c.args.rows.now)) c.in_ok-place.ensures.grows.whole c.in_ok-place.ensures.place (c.in_ok-place.ensures.grows.most ∙ c.new-graph.ensures.most)

pub returns-in_err-place-clause-many : goal.returns-in_err-place-clause-many
returns-in_err-place-clause-many g c =
    let asked = c.args.asked.now in
    on_err c.from_residual.result (more_as (most_hands_in (length c.args.places.now) (length c.args.rows.now)) c.new-graph.result.most_hands (by_itself asked) c.new-graph.ensures.most
    (c.in_err-place.ensures.many (by_itself asked) (none_within (by_itself asked) asked c.new-graph.result refl refl c.new-graph.ensures.none) (alone_comes asked)))
