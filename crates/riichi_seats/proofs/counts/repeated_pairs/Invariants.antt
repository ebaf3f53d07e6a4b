-- The pairs of the players so far.
use Rattle.std.proofs.Common.{◌≡◌}
use Rattle.std.specs.List.{flat_map, range_with_len}
use Rattle.riichi_seats.specs.Counts as spec
use Rattle.riichi_seats.proofs.counts.repeated_pairs.Given as goal

abbrev pub invariant-loop-one : goal.invariant-loop-one
invariant-loop-one l = l.pairs.items ≡ flat_map (spec.repeated_with l.tables l.players) (range_with_len 0 l.one)
