use Rattle.std.proofs.Common.{◌∙◌, ap, length, length-append, codes, arith}
use Rattle.std.specs.List.{sum_by}
use Rattle.riichi_yaku.proofs.InOrder.{letters, letters-most, letters-of, sum-before, sum-within}
use Rattle.riichi_yaku.proofs.yaku_set.push_words.Goals as goal

pub push_str-requires : goal.push_str-requires
push_str-requires g c =
    let l = c.loop-yaku in
    let all = ap (sum_by letters) (c.into_iter-yaku-iterator.ensures.into_iter_gives ∙ c.iter-yaku-items.ensures.value) in
    let within = sum-within letters c.into_iter-yaku-iterator.result l.yielded l.yaku-iterator c.next.new.self c.in-Some.yaku l.invariant.0 c.in-Some.ensures.steps in
    (omega arith, omega (arith, all, within, letters-of l.text.bytes c.args.text.now.bytes l.yielded l.invariant.1, letters-most c.args.set, c.requires))

pub push_str-requires-in-loop-yaku : goal.push_str-requires-in-loop-yaku
push_str-requires-in-loop-yaku g c =
    let l = c.loop-yaku in
    let all = ap (sum_by letters) (c.into_iter-yaku-iterator.ensures.into_iter_gives ∙ c.iter-yaku-items.ensures.value) in
    let within = sum-within letters c.into_iter-yaku-iterator.result l.yielded l.yaku-iterator c.next.new.self c.in-Some.yaku l.invariant.0 c.in-Some.ensures.steps in
    let space = ap length c.push_str.ensures.bytes ∙ length-append l.text.bytes (codes " ") in
    (omega arith, omega (arith, all, within, letters-of l.text.bytes c.args.text.now.bytes l.yielded l.invariant.1, letters-most c.args.set, c.requires, space, ap length c.word.ensures.value))

pub returns-clause-most : goal.returns-clause-most
returns-clause-most g c =
    let l = c.loop-yaku in
    let all = ap (sum_by letters) (c.into_iter-yaku-iterator.ensures.into_iter_gives ∙ c.iter-yaku-items.ensures.value) in
    omega (arith, all, sum-before letters c.into_iter-yaku-iterator.result l.yielded l.yaku-iterator l.invariant.0, letters-of l.text.bytes c.args.text.now.bytes l.yielded l.invariant.1, letters-most c.args.set)
