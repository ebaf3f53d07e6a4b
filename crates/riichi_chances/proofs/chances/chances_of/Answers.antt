use Rattle.std.proofs.Common.{length, refl, ◌∙◌, arith}
use Rattle.riichi_chances.specs.Graph.{most_hands_in, placed_hand}
use Rattle.riichi_chances.proofs.ChancesLemmas.{of_thirteen, placed, thirteen_most, thirteen_plays}
use Rattle.riichi_chances.specs.Reachable.{by_itself}
use Rattle.riichi_chances.proofs.ReachableLemmas.{alone_comes, alone_few, more_as, none_within, on_err}
use Rattle.riichi_chances.proofs.chances.chances_of.Goals as goal

pub place_of-requires-clause-graph : goal.place_of-requires-clause-graph
place_of-requires-clause-graph g c = c.new-graph.ensures.graph c.args.asked.now

pub returns-clause-chances : goal.returns-clause-chances
returns-clause-chances g c =
    let asked = c.args.asked.now in
    let graph = c.place_of.new.graph in
    of_thirteen asked (placed_hand asked graph.hands c.in_ok-place.place) c.unseen_tiles-unseen.result c.args.turns _ (c.unseen_tiles-unseen.ensures.thirteen c.requires.thirteen) (placed graph asked c.in_ok-place.place c.in_ok-place.ensures.place) c.unseen_tiles-unseen.ensures.value
    (c.by_turns.ensures.counted asked c.in_ok-place.ensures.grows.whole 0 _ (omega arith))

pub returns-clause-plays : goal.returns-clause-plays
returns-clause-plays g c =
    let asked = c.args.asked.now in
    let graph = c.place_of.new.graph in
    thirteen_plays asked (placed_hand asked graph.hands c.in_ok-place.place) c.unseen_tiles-unseen.result c.args.turns _ (c.unseen_tiles-unseen.ensures.thirteen c.requires.thirteen) (placed graph asked c.in_ok-place.place c.in_ok-place.ensures.place) c.unseen_tiles-unseen.ensures.value
    (c.by_turns.ensures.counted asked c.in_ok-place.ensures.grows.whole 0 _ (omega arith))

pub returns-clause-at_most : goal.returns-clause-at_most
returns-clause-at_most g c =
    let asked = c.args.asked.now in
    let graph = c.place_of.new.graph in
    thirteen_most asked (placed_hand asked graph.hands c.in_ok-place.place) c.unseen_tiles-unseen.result c.args.turns _ (placed graph asked c.in_ok-place.place c.in_ok-place.ensures.place) c.unseen_tiles-unseen.ensures.value (c.by_turns.ensures.counted asked c.in_ok-place.ensures.grows.whole 0 _ (omega arith))

pub returns-clause-few : goal.returns-clause-few
returns-clause-few g c = alone_few c.args.asked.now c.place_of.new.graph c.in_ok-place.place (most_hands_in (length c.args.places.now) (length c.args.rows.now)) c.in_ok-place.ensures.grows.whole c.in_ok-place.ensures.place (c.in_ok-place.ensures.grows.most ∙ c.new-graph.ensures.most)

pub returns-in_err-place-clause-many : goal.returns-in_err-place-clause-many
returns-in_err-place-clause-many g c =
    let asked = c.args.asked.now in
    on_err c.from_residual.result (more_as (most_hands_in (length c.args.places.now) (length c.args.rows.now)) c.new-graph.result.most_hands (by_itself asked) c.new-graph.ensures.most
    (c.in_err-place.ensures.many (by_itself asked) (none_within (by_itself asked) asked c.new-graph.result refl refl c.new-graph.ensures.none) (alone_comes asked)))
