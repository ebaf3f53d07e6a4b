use Rattle.std.proofs.Common.{length}
use Rattle.riichi_hints.proofs.account.Account.+tell_words.Given as goal

abbrev pub decreases-tell_words : goal.decreases-tell_words
decreases-tell_words l = length l.line.now
