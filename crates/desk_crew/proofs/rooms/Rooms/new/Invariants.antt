use Rattle.std.proofs.Common.{◌-◌, ◌≤◌, length}
use Rattle.desk_crew.proofs.rooms.Rooms.new.Given as goal

-- so many rooms are to come
abbrev pub decreases-loop-alloc : goal.decreases-loop-alloc
decreases-loop-alloc l = 64 - length l.rooms.items

abbrev pub invariant-loop-alloc : goal.invariant-loop-alloc
invariant-loop-alloc l = length l.rooms.items ≤ 64
