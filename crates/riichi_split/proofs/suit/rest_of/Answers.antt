use Rattle.std.proofs.Common.{rules, ◌+◌, ap, refl, sym, arith, get_or, add-one, ◌∙◌}
use Rattle.riichi_tiles.proofs.KindSums.{sum-more}
use Rattle.riichi_tiles.specs.Kinds.{first_of}
use Rattle.riichi_split.proofs.suit.rest_of.Goals as goal

pub loop-rank-init : goal.loop-rank-init
loop-rank-init c = (refl, omega arith)

pub loop-rank-preserved : goal.loop-rank-preserved
loop-rank-preserved c =
    let f = sum-more (λ k. get_or c.args.counts.now k 0) (first_of c.args.suit) c.loop-rank.rank in
    let i = c.loop-rank.invariant in
    (rw (c.first.ensures, add-one) (ap (λ x. x + get_or c.args.counts.now (first_of c.args.suit + c.loop-rank.rank) 0) i.0 ∙ sym f), search rules)
