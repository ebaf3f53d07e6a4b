use Rattle.std.proofs.Common.{IsTrue}
use Rattle.riichi_tiles.specs.Kinds.{is_orphan}
use Rattle.riichi_split.specs.SpecialWaits.{Adds}
use Rattle.riichi_split.proofs.special_waits.mark_orphans.Given as goal

abbrev pub invariant-loop-number : goal.invariant-loop-number
invariant-loop-number l = Adds (λ kind. IsTrue (is_orphan kind)) l.number l.initial.marks l.marks
