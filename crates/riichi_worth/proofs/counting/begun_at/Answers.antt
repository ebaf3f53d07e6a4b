use Rattle.std.proofs.Common.{ap, ◌∙◌, arith, max}
use Rattle.riichi_chances.specs.Draws.{greatest}
use Rattle.riichi_chances.proofs.RowLemmas.{sum_next}
use Rattle.riichi_worth.specs.Rows.{placed_points}
use Rattle.riichi_worth.proofs.counting.begun_at.Goals as goal

pub plus_times-sum-requires : goal.plus_times-sum-requires
plus_times-sum-requires c =
    let value = placed_points c.args.earlier.now c.args.left in
    let next = sum_next value 0 c.args.draws.now c.loop-draw.draw-index c.greatest_at.result _ c.loop-draw-test.true (c.greatest_at.ensures ∙ ap (λ places. max (greatest value places) 0) c.as_slice.ensures) in
    omega (arith, next, c.loop-draw.invariant.so_far, c.requires.fits)

pub loop-draw-preserved : goal.loop-draw-preserved
loop-draw-preserved c =
    let value = placed_points c.args.earlier.now c.args.left in
    let next = sum_next value 0 c.args.draws.now c.loop-draw.draw-index c.greatest_at.result _ c.loop-draw-test.true (c.greatest_at.ensures ∙ ap (λ places. max (greatest value places) 0) c.as_slice.ensures) in
    record { so_far = omega (arith, next, c.loop-draw.invariant.so_far, c.plus_times-sum.ensures) }
