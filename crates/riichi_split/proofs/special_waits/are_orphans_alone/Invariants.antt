use Rattle.std.proofs.Common.{ℕ, ◌<◌, IsTrue, get_or}
use Rattle.riichi_tiles.specs.Kinds.{is_orphan}
use Rattle.riichi_split.proofs.special_waits.are_orphans_alone.Given as goal

abbrev pub invariant-loop-kind : goal.invariant-loop-kind
invariant-loop-kind l = (k : ℕ) → k < l.kind → 0 < get_or l.counts k 0 → IsTrue (is_orphan k)
