use Rattle.std.proofs.Common.{length}
use Rattle.riichi_hints.proofs.account.Account.+tell_guesses.Given as goal

abbrev pub decreases-tell_guesses : goal.decreases-tell_guesses
decreases-tell_guesses l = length l.shown.now
