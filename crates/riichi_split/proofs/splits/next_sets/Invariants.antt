use Rattle.std.proofs.Common.{◌≡◌, ◌≤◌}
use Rattle.riichi_split.specs.Cuts.{from_choices}
use Rattle.riichi_split.proofs.splits.next_sets.Given as goal

abbrev pub invariant-loop-choices : goal.invariant-loop-choices
invariant-loop-choices l =
    (l.choices ≤ l.initial.choices) × (from_choices l.counts l.wanted l.pair l.choices ≡ from_choices l.counts l.wanted l.pair l.initial.choices)

abbrev pub decreases-loop-choices : goal.decreases-loop-choices
decreases-loop-choices l = l.choices
