use Rattle.std.proofs.Common.{ℕ, ◌*◌, ◌^◌, ◌%◌, ◌<◌, sym, subst, arith}
use Rattle.std.proofs.lemmas.Nat.{or_lt}
use Rattle.riichi_tiles.proofs.KindSets.{chosen_few}
use Rattle.riichi_tiles.proofs.kind_set.KindSet.insert_if.Goals as goal

pub invariant_of-self : goal.invariant_of-self
invariant_of-self c =
    let kind = c.index.result in
    or_lt 34 c.self.inside.bits (c.from.result * 2 ^ kind % 2 ^ 64) c.self.invariant
    (subst (λ (n : ℕ). n * 2 ^ kind % 2 ^ 64 < 2 ^ 34) (sym c.from.ensures) (chosen_few kind c.args.chosen (omega (arith, c.index.ensures.value, c.index.ensures.within))))
