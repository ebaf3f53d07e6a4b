use Rattle.std.proofs.Common.{◌≡◌, ◌+◌, ◌≤◌, drop}
use Rattle.riichi_split.specs.Cuts.{doubts}
use Rattle.riichi_split.proofs.splits.choices_of.Given as goal

abbrev pub invariant-loop-kind : goal.invariant-loop-kind
invariant-loop-kind l = (doubts l.counts ≡ l.doubts + doubts (drop l.kind l.counts)) × (l.doubts ≤ l.kind)
