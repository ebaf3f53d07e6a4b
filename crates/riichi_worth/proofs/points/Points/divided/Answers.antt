use Rattle.std.proofs.Common.{◌≡◌, ◌+◌, ◌-◌, ◌*◌, ◌%◌, ◌^◌, ◌<◌, ◌≤◌, sym, ap, ◌∙◌, arith}
use Rattle.std.proofs.Math.Nat.{mod-eq_of_lt}
use Rattle.std.proofs.lemmas.Bool.{ltb-false, ltb-true}
use Rattle.std.specs.Prelude.{nat_lt}
use Rattle.riichi_worth.proofs.NumberLemmas.{bit_fits, halves, twice, up_to}
use Rattle.riichi_worth.proofs.points.Points.divided.Goals as goal
use Rattle.riichi_worth.proofs.points.Points.divided.Goals.{then-not-is_less, else-not-is_less}

pub loop-step-preserved : goal.loop-step-preserved
loop-step-preserved c =
    let n = 22 - c.loop-step.step in
    let so_far = c.loop-step.invariant in
    let low : c.loop-step.step < 23 = omega (arith, c.loop-step-test.true) in
    let bit : 1 * 2 ^ (22 - c.loop-step.step) % 4294967296 ≡ 2 ^ (22 - c.loop-step.step) = bit_fits n (omega arith) in
    let part : c.plus_times-part.result ≡ 2 ^ (22 - c.loop-step.step) * c.args.whole =
    c.plus_times-part.ensures ∙ (omega (arith, ap (λ m. m * c.of.result) (c.from.ensures ∙ bit), ap (λ m. 2 ^ (22 - c.loop-step.step) * m) c.of.ensures)) in
    elim c.if-not-is_less.branch [
      | then-not-is_less w ↦ (
          let enough = ltb-false c.loop-step.rest c.plus_times-part.result (sym c.is_less.ensures ∙ w.if-not-is_less.true) in
          halves c.loop-step.step c.loop-step.times c.if-not-is_less.times c.loop-step.rest c.if-not-is_less.rest c.args.whole c.args.self c.plus_times-part.result low so_far.sum so_far.left so_far.few part (w.times-is ∙ ap (λ m. c.loop-step.times + m) bit) (omega (arith, w.rest-is, w.minus-rest.ensures)))
      | else-not-is_less w ↦ (
          let short = ltb-true c.loop-step.rest c.plus_times-part.result (sym c.is_less.ensures ∙ w.if-not-is_less.false) in
          up_to c.loop-step.step c.loop-step.times c.if-not-is_less.times c.loop-step.rest c.if-not-is_less.rest c.args.whole c.args.self c.plus_times-part.result low so_far.sum so_far.few part w.times-is w.rest-is short)
    ]
