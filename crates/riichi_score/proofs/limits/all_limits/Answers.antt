use Rattle.std.proofs.Common.{◌∙◌, ap, arith}
use Rattle.std.specs.List.{sum_by}
use Rattle.riichi_score.specs.Limits.{limits_in}
use Rattle.riichi_yaku.proofs.InOrder.{sum-before, sum-within}
use Rattle.riichi_yaku.specs.YakuSets.{yaku_in}
use Rattle.riichi_score.proofs.LimitLemmas.{limits-most}
use Rattle.riichi_score.proofs.limits.all_limits.Goals as goal

pub overflow_add-sum : goal.overflow_add-sum
overflow_add-sum c =
    let f = limits_in c.args.reading.now c.args.win.now in
    let l = c.loop-yaku in
    let all = ap (sum_by f) (c.into_iter-yaku-iterator.ensures.into_iter_gives ∙ c.iter-yaku-items.ensures.value) in
    let within = sum-within f c.into_iter-yaku-iterator.result l.yielded l.yaku-iterator c.next.new.self c.in-Some.yaku l.invariant.0 c.in-Some.ensures.steps in
    omega (arith, all, within, l.invariant.1, c.limits_in-sum.ensures.value, limits-most c.args.reading.now c.args.win.now (yaku_in c.args.yaku), c.iter-yaku-items.ensures.most)

pub returns-clause-most : goal.returns-clause-most
returns-clause-most c =
    let f = limits_in c.args.reading.now c.args.win.now in
    let l = c.loop-yaku in
    let all = ap (sum_by f) (c.into_iter-yaku-iterator.ensures.into_iter_gives ∙ c.iter-yaku-items.ensures.value) in
    omega (arith, all, sum-before f c.into_iter-yaku-iterator.result l.yielded l.yaku-iterator l.invariant.0, l.invariant.1, limits-most c.args.reading.now c.args.win.now (yaku_in c.args.yaku), c.iter-yaku-items.ensures.most)
