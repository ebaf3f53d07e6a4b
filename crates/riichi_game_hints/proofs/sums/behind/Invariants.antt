use Rattle.std.proofs.Common.{length}
use Rattle.riichi_game_hints.proofs.sums.behind.Given as goal

abbrev pub decreases-loop-word : goal.decreases-loop-word
decreases-loop-word l = length l.rest
