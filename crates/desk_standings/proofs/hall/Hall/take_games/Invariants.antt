use Rattle.std.proofs.Common.{take}
use Rattle.desk_standings.specs.Halls.{TakesInTurn}
use Rattle.desk_standings.proofs.hall.Hall.take_games.Given as goal

-- the games so far are taken
abbrev pub invariant-loop-game : goal.invariant-loop-game
invariant-loop-game l = TakesInTurn l.initial.self (take l.game-index l.games) l.self
