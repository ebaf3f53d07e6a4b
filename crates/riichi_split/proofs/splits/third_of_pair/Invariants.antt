use Rattle.std.proofs.Common.{◌≡◌, ◌≤◌, ◌*◌, get_or}
use Rattle.riichi_split.specs.Cuts.{thirds}
use Rattle.riichi_split.proofs.splits.third_of_pair.Given as goal

abbrev pub invariant-loop-third : goal.invariant-loop-third
invariant-loop-third l = (l.sum ≡ thirds (λ k. get_or l.counts k 0) l.third) × (l.sum ≤ 768 * l.third)
