use Rattle.riichi_deeper.proofs.DrawnLemmas.{made_is, never}
use Rattle.riichi_chances.specs.Graph.{placed_hand}
use Rattle.riichi_chances.proofs.ReachableLemmas.{some_node}
use Rattle.riichi_chances.proofs.TileLemmas.{counts_there, hand_there, never_none}
use Rattle.riichi_chances.proofs.graph.Graph.hand.Goals as goal

pub unreachable-requires : goal.unreachable-requires
unreachable-requires c =
    let graph = c.args.self.now in
    let parts = placed_hand c.args.asked.now graph.hands c.args.place in
    let node = c.requires.graph.node c.args.place (some_node graph.nodes c.args.place c.requires.inside) c.requires.inside in
    never_none parts.tiles c.of.result c.in_default.is (counts_there parts node.whole node.shape c.tiles.result c.of.result c.tiles.ensures c.of.ensures)

pub unreachable-requires-in-Err : goal.unreachable-requires-in-Err
unreachable-requires-in-Err c =
    let graph = c.args.self.now in
    let parts = placed_hand c.args.asked.now graph.hands c.args.place in
    let node = c.requires.graph.node c.args.place (some_node graph.nodes c.args.place c.requires.inside) c.requires.inside in
    never _ _ _ c.in-Err.is
    (hand_there parts node.shape c.in-Some.tiles c.melds-melds.result c.seen-seen.result c.of.result c.new.result c.in-Some.is (counts_there parts node.whole node.shape c.tiles.result c.of.result c.tiles.ensures c.of.ensures) c.melds-melds.ensures c.seen-seen.ensures c.new.ensures)

pub returns : goal.returns
returns c =
    let graph = c.args.self.now in
    let parts = placed_hand c.args.asked.now graph.hands c.args.place in
    let node = c.requires.graph.node c.args.place (some_node graph.nodes c.args.place c.requires.inside) c.requires.inside in
    made_is _ _ _ c.in-Ok.is
    (hand_there parts node.shape c.in-Some.tiles c.melds-melds.result c.seen-seen.result c.of.result c.new.result c.in-Some.is (counts_there parts node.whole node.shape c.tiles.result c.of.result c.tiles.ensures c.of.ensures) c.melds-melds.ensures c.seen-seen.ensures c.new.ensures)
