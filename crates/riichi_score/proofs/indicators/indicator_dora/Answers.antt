use Rattle.std.proofs.Common.{◌≡◌, ◌+◌, ◌∙◌, ap, get_or, length, refl, arith}
use Rattle.std.specs.List.{sum}
use Rattle.riichi_score.specs.Dora.{indicators, kind_dora}
use Rattle.riichi_score.proofs.DoraSums.{IsShown-begin, IsShown-next, IsShown-within, IsShown-enough, IsShown-more, IsShown-end, kinds_more, most}
use Rattle.riichi_score.proofs.Wins.{ten_counted}
use Rattle.riichi_score.proofs.indicators.indicator_dora.Goals as goal

pub overflow_add-left : goal.overflow_add-left
overflow_add-left c = omega (arith, ten_counted c.args.win.now c.parts-told.ensures.win, c.total.ensures.value, c.total-2.ensures.value, ap (λ l. sum l) c.dora-dora.ensures, ap (λ l. sum l) c.counted_ura-ura.ensures)

pub returns-then-left-eq0-clause-value : goal.returns-then-left-eq0-clause-value
returns-then-left-eq0-clause-value c =
    let begun = IsShown-begin c.args.win.now 0 (omega (arith, c.if-left-eq0.true, c.total.ensures.value, c.total-2.ensures.value, ap (λ l. sum l) c.dora-dora.ensures, ap (λ l. sum l) c.counted_ura-ura.ensures)) in
    IsShown-end c.args.win.now 0 0 0 refl begun

pub loop-left-init : goal.loop-left-init
loop-left-init c = IsShown-begin c.args.win.now _ (omega (arith, c.total.ensures.value, c.total-2.ensures.value, ap (λ l. sum l) c.dora-dora.ensures, ap (λ l. sum l) c.counted_ura-ura.ensures))

pub at-kind-requires : goal.at-kind-requires
at-kind-requires c =
    let w = c.args.win.now in
    let l = c.loop-left in
    let n = c.min-next.result in
    let next = IsShown-next w c.to_array.result c.to_array-2.result c.of-shown.result c.of-hidden.result l.number c.first_from.result c.first_from-in-loop-left.result n l.sum l.left (c.to_array.ensures.value ∙ c.dora-dora.ensures) (c.to_array-2.ensures.value ∙ c.counted_ura-ura.ensures) c.of-shown.ensures c.of-hidden.ensures c.first_from.ensures.from c.first_from.ensures.end c.first_from.ensures.none c.first_from-in-loop-left.ensures.from c.first_from-in-loop-left.ensures.none c.min-next.ensures l.invariant in
    IsShown-within w n l.sum l.left (omega (arith, c.total.ensures.counts.each_kind, ap length c.dora-dora.ensures)) (omega (arith, c.total-2.ensures.counts.each_kind, ap length c.counted_ura-ura.ensures)) c.loop-left-test.true next

pub overflow_add-sum : goal.overflow_add-sum
overflow_add-sum c =
    let w = c.args.win.now in
    let l = c.loop-left in
    let n = c.min-next.result in
    let next = IsShown-next w c.to_array.result c.to_array-2.result c.of-shown.result c.of-hidden.result l.number c.first_from.result c.first_from-in-loop-left.result n l.sum l.left (c.to_array.ensures.value ∙ c.dora-dora.ensures) (c.to_array-2.ensures.value ∙ c.counted_ura-ura.ensures) c.of-shown.ensures c.of-hidden.ensures c.first_from.ensures.from c.first_from.ensures.end c.first_from.ensures.none c.first_from-in-loop-left.ensures.from c.first_from-in-loop-left.ensures.none c.min-next.ensures l.invariant in
    let one : c.kind_dora-sum.result ≡ kind_dora w n = c.kind_dora-sum.ensures.value ∙ ap (λ k. kind_dora w k) c.at-kind.ensures in
    let lt = IsShown-within w n l.sum l.left (omega (arith, c.total.ensures.counts.each_kind, ap length c.dora-dora.ensures)) (omega (arith, c.total-2.ensures.counts.each_kind, ap length c.counted_ura-ura.ensures)) c.loop-left-test.true next in
    record { fits = omega (arith, most w (n + 1) c.parts-told.ensures.win (omega (arith, lt)), kinds_more (kind_dora w) n, next.told_is, one) }

pub overflow_sub-left : goal.overflow_sub-left
overflow_sub-left c =
    let w = c.args.win.now in
    let l = c.loop-left in
    let n = c.min-next.result in
    let next = IsShown-next w c.to_array.result c.to_array-2.result c.of-shown.result c.of-hidden.result l.number c.first_from.result c.first_from-in-loop-left.result n l.sum l.left (c.to_array.ensures.value ∙ c.dora-dora.ensures) (c.to_array-2.ensures.value ∙ c.counted_ura-ura.ensures) c.of-shown.ensures c.of-hidden.ensures c.first_from.ensures.from c.first_from.ensures.end c.first_from.ensures.none c.first_from-in-loop-left.ensures.from c.first_from-in-loop-left.ensures.none c.min-next.ensures l.invariant in
    let shown : c.get.result + c.get-in-loop-left.result ≡ indicators w n = omega (arith, c.get.ensures.value, c.get-in-loop-left.ensures.value, ap (λ k. get_or c.dora-dora.result k 0) c.at-kind.ensures, ap (λ k. get_or c.counted_ura-ura.result k 0) c.at-kind.ensures, ap (λ x. get_or x n 0) c.dora-dora.ensures, ap (λ x. get_or x n 0) c.counted_ura-ura.ensures) in
    omega (arith, shown, IsShown-enough w n l.sum l.left next)

pub loop-left-preserved : goal.loop-left-preserved
loop-left-preserved c =
    let w = c.args.win.now in
    let l = c.loop-left in
    let n = c.min-next.result in
    let next = IsShown-next w c.to_array.result c.to_array-2.result c.of-shown.result c.of-hidden.result l.number c.first_from.result c.first_from-in-loop-left.result n l.sum l.left (c.to_array.ensures.value ∙ c.dora-dora.ensures) (c.to_array-2.ensures.value ∙ c.counted_ura-ura.ensures) c.of-shown.ensures c.of-hidden.ensures c.first_from.ensures.from c.first_from.ensures.end c.first_from.ensures.none c.first_from-in-loop-left.ensures.from c.first_from-in-loop-left.ensures.none c.min-next.ensures l.invariant in
    let shown : c.get.result + c.get-in-loop-left.result ≡ indicators w n = omega (arith, c.get.ensures.value, c.get-in-loop-left.ensures.value, ap (λ k. get_or c.dora-dora.result k 0) c.at-kind.ensures, ap (λ k. get_or c.counted_ura-ura.result k 0) c.at-kind.ensures, ap (λ x. get_or x n 0) c.dora-dora.ensures, ap (λ x. get_or x n 0) c.counted_ura-ura.ensures) in
    let one : c.kind_dora-sum.result ≡ kind_dora w n = c.kind_dora-sum.ensures.value ∙ ap (λ k. kind_dora w k) c.at-kind.ensures in
    let lt = IsShown-within w n l.sum l.left (omega (arith, c.total.ensures.counts.each_kind, ap length c.dora-dora.ensures)) (omega (arith, c.total-2.ensures.counts.each_kind, ap length c.counted_ura-ura.ensures)) c.loop-left-test.true next in
    let more = IsShown-more w n l.sum l.left lt next in
    rw (one, shown) more

pub returns-clause-value : goal.returns-clause-value
returns-clause-value c =
    let l = c.loop-left in
    IsShown-end c.args.win.now l.number l.sum l.left (omega arith) l.invariant

pub returns-clause-most : goal.returns-clause-most
returns-clause-most c =
    let l = c.loop-left in
    omega (arith, l.invariant.told_is, most c.args.win.now l.number c.parts-told.ensures.win l.invariant.within)
