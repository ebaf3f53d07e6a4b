use Rattle.std.proofs.Common.{length}
use Rattle.riichi_game_drafts.proofs.draft.Draft.read_pieces.Given as goal

abbrev pub decreases-loop-piece : goal.decreases-loop-piece
decreases-loop-piece l = length l.rest
