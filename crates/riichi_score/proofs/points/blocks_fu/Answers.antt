use Rattle.std.proofs.Common.{◌∙◌, ap, sum_by, arith}
use Rattle.riichi_blocks.specs.Pairs.{fu_if_pair}
use Rattle.riichi_score.proofs.FuSums.{few_fu, sets_and_pairs}
use Rattle.riichi_score.proofs.points.blocks_fu.Goals as goal

pub returns-clause-value : goal.returns-clause-value
returns-clause-value c =
    let win = c.args.win.now in
    let blocks = c.args.blocks.now in
    let pairs = c.pairs_fu.ensures ∙ ap (sum_by (fu_if_pair win)) c.as_slice.ensures.value in
    omega (arith, c.sets_fu.ensures.value, pairs, sets_and_pairs win blocks)

pub returns-clause-most : goal.returns-clause-most
returns-clause-most c = omega (arith, c.requires, returns-clause-value c, few_fu c.args.win.now c.args.blocks.now)

pub overflow_add-result : goal.overflow_add-result
overflow_add-result c = omega (arith, returns-clause-most c)

pub overflow_cast-result : goal.overflow_cast-result
overflow_cast-result c = omega (arith, returns-clause-most c)
