use Rattle.std.proofs.Common.{◌≡◌, ◌+◌, ◌*◌, All}
use Rattle.riichi_shape.specs.EveryWinning.{distance_of}
use Rattle.riichi_chances.specs.Graph.{Grows, draws_in, places_in}
use Rattle.riichi_chances.specs.Reachable.{HandGroup, IsWithin, MayCome, RestsMayCome}
use Rattle.riichi_chances.proofs.BuildingLemmas.{DrawsSoFar, RestsSoFar}
use Rattle.riichi_chances.proofs.building.+building.Given as goal

-- a tile that is kept brings nearer, and a best discard leaves as near
abbrev pub decreases-rests_of : goal.decreases-rests_of
decreases-rests_of g l = 5 * distance_of l.drawn.now.tiles l.drawn.now.melds + 6

abbrev pub decreases-places_of : goal.decreases-places_of
decreases-places_of g l = 5 * distance_of l.drawn.now.tiles l.drawn.now.melds + 5

abbrev pub decreases-place_of : goal.decreases-place_of
decreases-place_of g l = 5 * distance_of l.asked.now.tiles l.asked.now.melds + 4

abbrev pub decreases-node_of : goal.decreases-node_of
decreases-node_of g l = 5 * distance_of l.asked.now.tiles l.asked.now.melds + 3

abbrev pub decreases-draws_of : goal.decreases-draws_of
decreases-draws_of g l = 5 * distance_of l.asked.now.tiles l.asked.now.melds + 2

-- the draws so far, and the kinds that are left
abbrev pub invariant-draws_of-loop-number : goal.invariant-draws_of-loop-number
invariant-draws_of-loop-number g l = record {
  stays : l.source ≡ l.fn.source;
  grows : Grows l.asked l.fn.graph l.graph;
  within : (group : HandGroup) → IsWithin group l.asked l.fn.graph → MayCome group l.asked.tiles → All (MayCome group) l.graph.hands;
  so_far : DrawsSoFar l.asked l.copies l.graph (draws_in l.draws) l.number;
}

-- the places so far, and the discards that are left
abbrev pub invariant-places_of-loop-at : goal.invariant-places_of-loop-at
invariant-places_of-loop-at g l = record {
  stays : l.source ≡ l.fn.source;
  grows : Grows l.drawn l.fn.graph l.graph;
  within : (group : HandGroup) → IsWithin group l.drawn l.fn.graph → RestsMayCome l.drawn group → All (MayCome group) l.graph.hands;
  so_far : RestsSoFar l.drawn l.discards l.graph (places_in l.places) l.at;
}
