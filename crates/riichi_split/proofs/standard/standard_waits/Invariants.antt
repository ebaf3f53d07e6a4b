use Rattle.std.proofs.Common.{◌*◌, min}
use Rattle.riichi_split.specs.SuitTiles.{Completes, MarksBelow}
use Rattle.riichi_split.proofs.standard.standard_waits.Given as goal

abbrev pub invariant-loop-suit : goal.invariant-loop-suit
invariant-loop-suit l = MarksBelow (Completes l.suits.tiles) (min (9 * l.suit-index) 34) l.marks
