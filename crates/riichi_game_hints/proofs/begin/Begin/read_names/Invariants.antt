use Rattle.std.proofs.Common.{length}
use Rattle.riichi_game_hints.proofs.begin.Begin.read_names.Given as goal

abbrev pub decreases-loop-name : goal.decreases-loop-name
decreases-loop-name l = length l.rest
