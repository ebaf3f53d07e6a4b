use Rattle.riichi_split.proofs.Filling.{IsFilledTo}
use Rattle.riichi_split.proofs.suit_tiles.SuitTiles.of.Given as goal

abbrev pub invariant-loop-rank : goal.invariant-loop-rank
invariant-loop-rank l = IsFilledTo l.counts l.suit l.held l.rank
