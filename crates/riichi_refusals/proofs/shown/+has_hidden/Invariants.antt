use Rattle.std.proofs.Common.{length}
use Rattle.riichi_refusals.proofs.shown.+has_hidden.Given as goal

abbrev pub decreases-has_hidden : goal.decreases-has_hidden
decreases-has_hidden l = length l.text.now
