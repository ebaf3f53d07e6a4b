use Rattle.std.proofs.lemmas.Nat.{or_lt}
use Rattle.riichi_tiles.proofs.kind_set.KindSet.either.Goals as goal

pub invariant_of-result : goal.invariant_of-result
invariant_of-result c = or_lt 34 c.self.inside.bits c.other.inside.bits c.self.invariant c.other.invariant
