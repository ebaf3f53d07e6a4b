use Rattle.std.proofs.Common.{length}
use Rattle.riichi_hints.proofs.account.+begins.Given as goal

abbrev pub decreases-begins : goal.decreases-begins
decreases-begins l = length l.word.now
