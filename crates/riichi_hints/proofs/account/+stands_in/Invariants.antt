use Rattle.std.proofs.Common.{length}
use Rattle.riichi_hints.proofs.account.+stands_in.Given as goal

abbrev pub decreases-stands_in : goal.decreases-stands_in
decreases-stands_in l = length l.other.now
