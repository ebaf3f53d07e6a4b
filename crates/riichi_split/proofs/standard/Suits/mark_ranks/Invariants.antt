use Rattle.std.proofs.Common.{◌+◌}
use Rattle.riichi_tiles.specs.Kinds.{first_of}
use Rattle.riichi_split.specs.SuitTiles.{Completes, MarksBelow}
use Rattle.riichi_split.proofs.standard.Suits.mark_ranks.Given as goal

abbrev pub invariant-loop-rank : goal.invariant-loop-rank
invariant-loop-rank l = MarksBelow (Completes l.self.tiles) (first_of l.suit + l.rank) l.marks
