use Rattle.std.proofs.Common.{refl, sym, ◌∙◌, arith}
use Rattle.riichi_chances.proofs.PlaceLemmas.{most_told, nodes_told, pushed_graph, pushed_indexed}
use Rattle.riichi_chances.proofs.graph.Graph.push.Goals as goal

pub overflow_cast-self : goal.overflow_cast-self
overflow_cast-self c =
    let inside = c.self.inside in
    let nodes = nodes_told c.args.self.now inside.places.now inside.lasts inside.count inside.most_hands c.self.invariant (sym c.self.view_is) in
    let most = most_told c.args.self.now inside.places.now inside.lasts inside.count inside.most_hands c.self.invariant (sym c.self.view_is) in
    omega (arith, nodes, most, c.requires.room, c.self.invariant.small)

pub invariant_of-self : goal.invariant_of-self
invariant_of-self c =
    let inside = c.self.inside in
    let nodes = nodes_told c.args.self.now inside.places.now inside.lasts inside.count inside.most_hands c.self.invariant (sym c.self.view_is) in
    let most = most_told c.args.self.now inside.places.now inside.lasts inside.count inside.most_hands c.self.invariant (sym c.self.view_is) in
    pushed_indexed inside.places.now inside.lasts inside.count inside.most_hands c.self.invariant (omega (arith, nodes, most, c.requires.room)) _ c.bucket_of-bucket.result c.bucket_of-bucket.ensures.value c.bucket_of-bucket.ensures.inside (omega (arith, c.self.told.1, c.bucket_of-bucket.ensures.inside)) refl

pub returns-clause-pushed : goal.returns-clause-pushed
returns-clause-pushed c =
    let inside = c.self.inside in
    let nodes = nodes_told c.args.self.now inside.places.now inside.lasts inside.count inside.most_hands c.self.invariant (sym c.self.view_is) in
    let most = most_told c.args.self.now inside.places.now inside.lasts inside.count inside.most_hands c.self.invariant (sym c.self.view_is) in
    pushed_graph inside.places.now inside.lasts inside.count inside.most_hands c.self.invariant (omega (arith, nodes, most, c.requires.room)) _ c.bucket_of-bucket.result c.bucket_of-bucket.ensures.value c.bucket_of-bucket.ensures.inside (omega (arith, c.self.told.1, c.bucket_of-bucket.ensures.inside)) refl c.args.self.now (sym c.self.view_is) c.args.asked.now.tiles (c.to_array-tiles.ensures.value ∙ c.tiles.ensures.value)
