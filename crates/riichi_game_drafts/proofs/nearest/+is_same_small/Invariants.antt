use Rattle.std.proofs.Common.{length}
use Rattle.riichi_game_drafts.proofs.nearest.+is_same_small.Given as goal

abbrev pub decreases-is_same_small : goal.decreases-is_same_small
decreases-is_same_small l = length l.word.now
