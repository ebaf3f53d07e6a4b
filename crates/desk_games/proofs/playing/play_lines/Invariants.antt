use Rattle.std.proofs.Common.{length}
use Rattle.desk_games.proofs.PlayLemmas.{PlayedUpTo}
use Rattle.desk_games.proofs.playing.play_lines.Given as goal

-- the text up to the rest is played
abbrev pub invariant-loop-line : goal.invariant-loop-line
invariant-loop-line l = PlayedUpTo l.initial.games l.games l.text l.rest l.lines l.refused

abbrev pub decreases-loop-line : goal.decreases-loop-line
decreases-loop-line l = length l.rest
