use Rattle.std.proofs.Common.{◌∙◌, ap, arith, max}
use Rattle.riichi_chances.specs.Draws.{greatest}
use Rattle.riichi_chances.specs.Graph.{placed_number}
use Rattle.riichi_chances.proofs.RowLemmas.{sum_next}
use Rattle.riichi_chances.proofs.counting.begun.Goals as goal

pub overflow_mul-sum : goal.overflow_mul-sum
overflow_mul-sum c =
    let value = placed_number c.args.column c.args.earlier.now c.args.left in
    let next = sum_next value c.args.least c.args.draws.now c.loop-draw.draw-index c.greatest_at-number.result _ c.loop-draw-test.true (c.greatest_at-number.ensures ∙ ap (λ places. max (greatest value places) c.args.least) c.as_slice.ensures) in
    omega (arith, next, c.loop-draw.invariant.so_far, c.requires.fits)

pub overflow_add-sum : goal.overflow_add-sum
overflow_add-sum c =
    let value = placed_number c.args.column c.args.earlier.now c.args.left in
    let next = sum_next value c.args.least c.args.draws.now c.loop-draw.draw-index c.greatest_at-number.result _ c.loop-draw-test.true (c.greatest_at-number.ensures ∙ ap (λ places. max (greatest value places) c.args.least) c.as_slice.ensures) in
    omega (arith, next, c.loop-draw.invariant.so_far, c.requires.fits)

pub loop-draw-preserved : goal.loop-draw-preserved
loop-draw-preserved c =
    let value = placed_number c.args.column c.args.earlier.now c.args.left in
    let next = sum_next value c.args.least c.args.draws.now c.loop-draw.draw-index c.greatest_at-number.result _ c.loop-draw-test.true (c.greatest_at-number.ensures ∙ ap (λ places. max (greatest value places) c.args.least) c.as_slice.ensures) in
    record { so_far = omega (arith, next, c.loop-draw.invariant.so_far) }
