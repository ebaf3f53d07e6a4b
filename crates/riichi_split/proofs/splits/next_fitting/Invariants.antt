use Rattle.std.proofs.Common.{◌≡◌, ℕ, ◌≤◌, ◌<◌, ◌+◌, ◌%◌}
use Rattle.riichi_split.specs.Cuts.{from_pairs}
use Rattle.riichi_split.proofs.splits.next_fitting.Given as goal

abbrev pub invariant-loop-kinds : goal.invariant-loop-kinds
invariant-loop-kinds l =
    (l.kinds ≤ l.fn.kinds) × (0 < l.kinds → (l.first + l.kinds + 2) % 3 ≡ l.third)
    × ((wanted choices : ℕ) → from_pairs l.counts wanted choices l.first l.kinds ≡ from_pairs l.counts wanted choices l.first l.fn.kinds)

abbrev pub decreases-loop-kinds : goal.decreases-loop-kinds
decreases-loop-kinds l = l.kinds
