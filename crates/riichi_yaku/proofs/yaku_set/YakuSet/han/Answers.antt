use Rattle.std.proofs.Common.{◌∙◌, ap, arith}
use Rattle.std.specs.List.{sum_by}
use Rattle.riichi_yaku.specs.Table.{han}
use Rattle.riichi_yaku.proofs.InOrder.{han-most, sum-before, sum-within}
use Rattle.riichi_yaku.proofs.yaku_set.YakuSet.han.Goals as goal

pub overflow_add-sum : goal.overflow_add-sum
overflow_add-sum c =
    let l = c.loop-yaku in
    let all = ap (sum_by (han c.args.concealed)) (c.into_iter-yaku-iterator.ensures.into_iter_gives ∙ c.iter-yaku-items.ensures.value) in
    let within = sum-within (han c.args.concealed) c.into_iter-yaku-iterator.result l.yielded l.yaku-iterator c.next.new.self c.in-Some.yaku l.invariant.0 c.in-Some.ensures.steps in
    omega (arith, all, within, l.invariant.1, c.han-sum.ensures, han-most c.args.concealed c.args.self)

pub returns-clause-most : goal.returns-clause-most
returns-clause-most c =
    let l = c.loop-yaku in
    let all = ap (sum_by (han c.args.concealed)) (c.into_iter-yaku-iterator.ensures.into_iter_gives ∙ c.iter-yaku-items.ensures.value) in
    omega (arith, all, sum-before (han c.args.concealed) c.into_iter-yaku-iterator.result l.yielded l.yaku-iterator l.invariant.0, l.invariant.1, han-most c.args.concealed c.args.self)
