use Rattle.std.proofs.Common.{◌≡◌}
use Rattle.riichi_split.specs.Cuts.{IsReady}
use Rattle.riichi_split.specs.SplitsLeft.{splits_left}
use Rattle.riichi_split.proofs.splits.SplitsIterator.next.Given as goal

abbrev pub invariant-loop-sets : goal.invariant-loop-sets
invariant-loop-sets l =
    let now = l.self-inside in
    IsReady now.counts now.held now.wanted now.choices now.choices_left now.first now.pairs_left now.third × (splits_left now ≡ splits_left l.initial.self-inside)

abbrev pub decreases-loop-sets : goal.decreases-loop-sets
decreases-loop-sets l = l.self-inside.pairs_left
