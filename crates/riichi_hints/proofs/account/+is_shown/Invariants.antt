use Rattle.std.proofs.Common.{length}
use Rattle.riichi_hints.proofs.account.+is_shown.Given as goal

abbrev pub decreases-is_shown : goal.decreases-is_shown
decreases-is_shown l = length l.shown.now
