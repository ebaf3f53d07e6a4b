use Rattle.std.proofs.Common.{◌≡◌, [], map, take}
use Rattle.std.specs.List.{concat}
use Rattle.desk_crew.proofs.rooms.Rooms.clear.Given as goal

-- the rooms before this place are empty
abbrev pub invariant-loop-place : goal.invariant-loop-place
invariant-loop-place l = concat (map (λ room. room.items) (take l.place l.self.rooms.items)) ≡ []
