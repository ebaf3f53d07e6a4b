use Rattle.std.proofs.Common.{length}
use Rattle.riichi_hints.proofs.plain.+add_plain.Given as goal

abbrev pub decreases-add_plain : goal.decreases-add_plain
decreases-add_plain l = length l.line.now
