use Rattle.riichi_split.specs.Marks.{MarksBelow}
use Rattle.riichi_split.specs.SuitTiles.{AreSets}
use Rattle.riichi_cuts.specs.SuitCut.{Makes}
use Rattle.riichi_cuts.proofs.suit_cut.ranks_for_sets.Given as goal

abbrev pub invariant-loop-rank : goal.invariant-loop-rank
invariant-loop-rank l = MarksBelow (Makes AreSets l.tiles) l.rank l.ranks
