use Rattle.std.proofs.Common.{arith, get_or, refl}
use Rattle.riichi_split.proofs.Thirds.{thirds-zero, thirds-more}
use Rattle.riichi_split.proofs.splits.third_of_pair.Goals as goal

pub loop-third-init : goal.loop-third-init
loop-third-init c = (omega (arith, thirds-zero (λ k. get_or c.args.counts.now k 0)), omega arith)

pub loop-third-preserved : goal.loop-third-preserved
loop-third-preserved c =
    let i = c.loop-third.invariant in
    (thirds-more c.args.counts.now c.loop-third.third c.loop-third.sum _ _ i.0 refl refl, omega (arith, i.1))
