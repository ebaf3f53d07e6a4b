use Rattle.std.proofs.Common.{length}
use Rattle.riichi_game_hints.proofs.payment.with_payment.Given as goal

abbrev pub decreases-loop-value : goal.decreases-loop-value
decreases-loop-value l = length l.rest
