use Rattle.std.proofs.Common.{map, take}
use Rattle.std.specs.List.{concat}
use Rattle.desk_lines.specs.Streams.{WritesAll}
use Rattle.desk_crew.proofs.rooms.Rooms.write.Given as goal

-- the answers in the rooms before this place are written
abbrev pub invariant-loop-place : goal.invariant-loop-place
invariant-loop-place g l = WritesAll g.W.Sink l.fn.writer l.writer (concat (map (λ room. room.items) (take l.place l.self.rooms.items)))
