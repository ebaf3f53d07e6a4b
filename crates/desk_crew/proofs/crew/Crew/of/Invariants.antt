use Rattle.std.proofs.Common.{◌-◌, ◌≤◌, length}
use Rattle.desk_crew.proofs.crew.Crew.of.Given as goal

-- so many shares are to come
abbrev pub decreases-loop-shares : goal.decreases-loop-shares
decreases-loop-shares l = l.workers - length l.shares.items

abbrev pub invariant-loop-shares : goal.invariant-loop-shares
invariant-loop-shares l = length l.shares.items ≤ l.workers
