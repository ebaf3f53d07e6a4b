use Rattle.std.proofs.Common.{length}
use Rattle.riichi_hints.proofs.account.Account.+add_shown.Given as goal

abbrev pub decreases-add_shown : goal.decreases-add_shown
decreases-add_shown l = length l.shown.now
