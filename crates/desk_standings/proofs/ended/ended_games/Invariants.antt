use Rattle.std.proofs.Common.{length}
use Rattle.desk_standings.specs.Ended.{EndsGames}
use Rattle.desk_standings.proofs.ended.ended_games.Given as goal

-- the games so far, and the rest
abbrev pub invariant-loop-played : goal.invariant-loop-played
invariant-loop-played l = EndsGames l.given l.rest l.text l.games.items

abbrev pub decreases-loop-played : goal.decreases-loop-played
decreases-loop-played l = length l.rest
