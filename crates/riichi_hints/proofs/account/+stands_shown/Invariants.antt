use Rattle.std.proofs.Common.{length}
use Rattle.riichi_hints.proofs.account.+stands_shown.Given as goal

abbrev pub decreases-stands_shown : goal.decreases-stands_shown
decreases-stands_shown l = length l.shown.now
