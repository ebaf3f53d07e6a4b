use Rattle.std.proofs.Common.{◌<◌}
use Rattle.riichi_tiles.specs.HeldKinds.{IsMarked}
use Rattle.riichi_hand.specs.Hand.{copies_held}
use Rattle.riichi_split.specs.Marks.{MarksBelow}
use Rattle.riichi_split.proofs.waiting.with_tiles_left.Given as goal

abbrev pub invariant-loop-number : goal.invariant-loop-number
invariant-loop-number l = MarksBelow (λ kind. IsMarked l.kinds kind × (copies_held l.tiles l.melds kind < 4)) l.number l.left
