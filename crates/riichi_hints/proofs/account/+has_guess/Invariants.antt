use Rattle.std.proofs.Common.{length}
use Rattle.riichi_hints.proofs.account.+has_guess.Given as goal

abbrev pub decreases-has_guess : goal.decreases-has_guess
decreases-has_guess l = length l.shown.now
