use Rattle.std.proofs.Common.{◌≡◌, ◌≤◌, take}
use Rattle.std.specs.Prelude.{count_by, nat_le}
use Rattle.riichi_shape.proofs.pairs.counts_from.Given as goal

abbrev pub invariant-loop-held : goal.invariant-loop-held
invariant-loop-held l = record {
  counted : l.kinds ≡ count_by (λ held. nat_le l.times held) (take l.held-index l.counts);
  few : l.kinds ≤ l.held-index;
}
