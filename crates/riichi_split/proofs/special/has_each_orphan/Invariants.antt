use Rattle.std.proofs.Common.{ℕ, ◌<◌, IsTrue, get_or}
use Rattle.riichi_tiles.specs.Kinds.{is_orphan}
use Rattle.riichi_split.proofs.special.has_each_orphan.Given as goal

abbrev pub invariant-loop-kind : goal.invariant-loop-kind
invariant-loop-kind l = (k : ℕ) → k < l.kind → IsTrue (is_orphan k) → 0 < get_or l.counts k 0
