use Rattle.std.proofs.Common.{length}
use Rattle.riichi_chances.proofs.PlaceLemmas.{FindsBelow}
use Rattle.riichi_chances.proofs.graph.Graph.find.Given as goal

-- the hand is at no place behind those that are left
abbrev pub invariant-loop-next : goal.invariant-loop-next
invariant-loop-next l = FindsBelow l.places (length l.self.hands) l.tiles l.next

abbrev pub decreases-loop-next : goal.decreases-loop-next
decreases-loop-next l = l.next
