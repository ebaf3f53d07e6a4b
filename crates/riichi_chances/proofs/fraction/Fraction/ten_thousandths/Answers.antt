use Rattle.std.proofs.Common.{arith}
use Rattle.riichi_chances.proofs.FractionLemmas.{rounded_down, rounded_up, with_digit}
use Rattle.riichi_chances.proofs.fraction.Fraction.ten_thousandths.Goals as goal

pub loop-preserved : goal.loop-preserved
loop-preserved c =
    with_digit c.args.self.part c.args.self.whole c.loop.number c.loop.rest c.loop.counter c.next_digit-digit.result.0 c.next_digit-digit.result.1 c.requires.some c.requires.part c.loop.invariant c.next_digit-digit.ensures.all
    c.next_digit-digit.ensures.left

pub returns-then-rest-self-clause-value : goal.returns-then-rest-self-clause-value
returns-then-rest-self-clause-value c = rounded_down c.args.self c.loop.number c.loop.rest c.loop.counter (let test = c.loop-test.false in omega (arith, test, c.loop.auto.counter-end)) c.loop.invariant (let test = c.if-rest-self.true in omega (arith, test))

pub returns-else-rest-self-clause-value : goal.returns-else-rest-self-clause-value
returns-else-rest-self-clause-value c = rounded_up c.args.self c.loop.number c.loop.rest c.loop.counter (let test = c.loop-test.false in omega (arith, test, c.loop.auto.counter-end)) c.loop.invariant (let test = c.if-rest-self.false in omega (arith, test))
