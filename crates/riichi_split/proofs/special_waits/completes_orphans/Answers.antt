use Rattle.std.proofs.Common.{inr, rules, arith}
use Rattle.riichi_split.proofs.SpecialKinds.{fifth_completes_none}
use Rattle.riichi_split.proofs.special_waits.completes_orphans.Goals as goal

pub returns-then-get-ge4 : goal.returns-then-get-ge4
returns-then-get-ge4 c = (
  λ t. absurd (cc),
  λ w. absurd (fifth_completes_none c.args.tiles.now c.args.kind c.get.ensures.counts.each_kind (omega (arith, c.get.ensures.value, c.if-get-ge4.true)) (search rules, inr w)),
)
