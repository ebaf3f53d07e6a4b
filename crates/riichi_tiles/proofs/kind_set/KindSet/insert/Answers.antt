use Rattle.std.proofs.Common.{◌*◌, ◌^◌, ◌%◌, arith}
use Rattle.std.proofs.lemmas.Nat.{one_shl, or_lt, pow_below}
use Rattle.riichi_tiles.proofs.kind_set.KindSet.insert.Goals as goal

pub invariant_of-self : goal.invariant_of-self
invariant_of-self c =
    let kind = c.index.result in
    or_lt 34 c.self.inside.bits (1 * 2 ^ kind % 2 ^ 64) c.self.invariant
    (omega (arith, one_shl kind 64 (omega (arith, c.index.ensures.value, c.index.ensures.within)), pow_below kind 34 (omega (arith, c.index.ensures.value, c.index.ensures.within))))
