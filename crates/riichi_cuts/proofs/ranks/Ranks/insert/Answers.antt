use Rattle.std.proofs.Common.{◌*◌, ◌^◌, ◌%◌, arith}
use Rattle.std.proofs.lemmas.Nat.{one_shl, or_lt, pow_below}
use Rattle.riichi_cuts.proofs.ranks.Ranks.insert.Goals as goal

pub invariant_of-self : goal.invariant_of-self
invariant_of-self c =
    let rank = c.args.rank in
    or_lt 9 c.self.inside.bits (1 * 2 ^ rank % 2 ^ 16) c.self.invariant
    (omega (arith, one_shl rank 16 (omega (arith, c.requires)), pow_below rank 9 c.requires))
