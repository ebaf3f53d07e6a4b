use Rattle.std.proofs.Common.{◌≡◌, ℕ, ◌<◌, ◌≤◌, ◌⊎◌, get_or}
use Rattle.riichi_split.proofs.special_waits.next_single.Given as goal

abbrev pub invariant-loop-number : goal.invariant-loop-number
invariant-loop-number l = (l.from ≤ l.number) × ((k : ℕ) → l.from ≤ k → k < l.number → (get_or l.counts k 0 ≡ 0) ⊎ (get_or l.counts k 0 ≡ 2))
