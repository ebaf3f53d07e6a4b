use Rattle.std.proofs.Common.{ℕ, ◌<◌, IsTrue, get_or}
use Rattle.riichi_tiles.specs.Kinds.{is_orphan}
use Rattle.riichi_split.proofs.special_waits.next_lacking.Given as goal

abbrev pub invariant-loop-number : goal.invariant-loop-number
invariant-loop-number l = (k : ℕ) → k < l.number → IsTrue (is_orphan k) → 0 < get_or l.counts k 0
