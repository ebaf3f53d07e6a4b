use Rattle.std.proofs.Common.{length}
use Rattle.riichi_split.proofs.Next.{IsUnderWay}
use Rattle.riichi_split.proofs.readings.ReadingsIterator.next.Given as goal

abbrev pub invariant-loop-done : goal.invariant-loop-done
invariant-loop-done l = IsUnderWay l.initial.self-inside l.self-inside

abbrev pub decreases-loop-done : goal.decreases-loop-done
decreases-loop-done l = length l.self-inside.splits
