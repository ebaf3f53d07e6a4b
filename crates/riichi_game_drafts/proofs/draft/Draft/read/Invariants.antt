use Rattle.std.proofs.Common.{length}
use Rattle.riichi_game_drafts.proofs.draft.Draft.read.Given as goal

abbrev pub decreases-loop-word : goal.decreases-loop-word
decreases-loop-word l = length l.rest
