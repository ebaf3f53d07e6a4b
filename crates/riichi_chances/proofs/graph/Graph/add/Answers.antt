use Rattle.std.proofs.Common.{All, sym, subst, arith}
use Rattle.std.proofs.lemmas.List.Elements.{All-push}
use Rattle.riichi_chances.specs.Reachable.{MayCome}
use Rattle.riichi_chances.proofs.GraphLemmas.{taken_grows}
use Rattle.riichi_chances.proofs.PlaceLemmas.{as_many, most_told, nodes_told}
use Rattle.riichi_chances.proofs.ReachableLemmas.{one_too_many}
use Rattle.riichi_chances.proofs.graph.Graph.add.Goals as goal

pub returns-then-self-clause-many : goal.returns-then-self-clause-many
returns-then-self-clause-many c = λ group within come.
    (let inside = c.self.inside in
    let hands = as_many c.args.self.now inside.places.now inside.lasts inside.count inside.most_hands c.self.invariant (sym c.self.view_is) in
    let most = most_told c.args.self.now inside.places.now inside.lasts inside.count inside.most_hands c.self.invariant (sym c.self.view_is) in
    one_too_many group c.args.self.now c.args.asked.now.tiles c.requires.graph.once c.in_default.ensures.none (omega (arith, hands, most, c.if-self.true)) within.each come)

pub returns-clause-grows : goal.returns-clause-grows
returns-clause-grows c =
    let inside = c.self.inside in
    let nodes = nodes_told c.args.self.now inside.places.now inside.lasts inside.count inside.most_hands c.self.invariant (sym c.self.view_is) in
    let most = most_told c.args.self.now inside.places.now inside.lasts inside.count inside.most_hands c.self.invariant (sym c.self.view_is) in
    taken_grows c.args.asked.now c.args.self.now c.push.new.self c.args.node c.requires.graph c.push.ensures.pushed c.in_default.ensures.none c.requires.node (omega (arith, nodes, most, c.if-self.false))

pub returns-clause-within : goal.returns-clause-within
returns-clause-within c = λ group within come.
    subst (All (MayCome group)) (sym c.push.ensures.pushed.hands) (All-push (MayCome group) c.args.self.now.hands c.args.asked.now.tiles within.each come)
