use Rattle.std.proofs.Common.{length}
use Rattle.riichi_game_drafts.proofs.nearest.+begins_small.Given as goal

abbrev pub decreases-begins_small : goal.decreases-begins_small
decreases-begins_small l = length l.word.now
