-- The pairs with the players so far.
use Rattle.std.proofs.Common.{◌≡◌, ◌+◌, ◌-◌, ◌++◌, map}
use Rattle.std.specs.List.{filter, range_with_len}
use Rattle.riichi_seats.specs.Counts as spec
use Rattle.riichi_seats.proofs.counts.push_repeated.Given as goal

abbrev pub invariant-loop-other : goal.invariant-loop-other
invariant-loop-other l =
    l.pairs.items ≡ l.initial.pairs.items
    ++ filter spec.is_repeated (map (spec.pair_of l.tables l.one) (range_with_len (l.one + 1) (l.other - (l.one + 1))))
