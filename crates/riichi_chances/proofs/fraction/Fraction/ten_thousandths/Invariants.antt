use Rattle.riichi_chances.proofs.FractionLemmas.{AreDigits}
use Rattle.riichi_chances.proofs.fraction.Fraction.ten_thousandths.Given as goal

abbrev pub invariant-loop : goal.invariant-loop
invariant-loop l = AreDigits l.self.part l.self.whole l.number l.rest l.counter
