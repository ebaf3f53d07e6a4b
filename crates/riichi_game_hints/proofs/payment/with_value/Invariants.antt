use Rattle.std.proofs.Common.{length}
use Rattle.riichi_game_hints.proofs.payment.with_value.Given as goal

abbrev pub decreases-loop-word : goal.decreases-loop-word
decreases-loop-word l = length l.rest
