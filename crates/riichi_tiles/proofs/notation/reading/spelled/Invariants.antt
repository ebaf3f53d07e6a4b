use Rattle.riichi_tiles.proofs.LastGroups.{SpellsFrom}
use Rattle.riichi_tiles.proofs.notation.reading.spelled.Given as goal

abbrev pub invariant-loop-end : goal.invariant-loop-end
invariant-loop-end l = SpellsFrom l.fn.text l.counts l.end

abbrev pub decreases-loop-end : goal.decreases-loop-end
decreases-loop-end l = l.end
