use Rattle.std.proofs.Common.{◌≡◌, arith}
use Rattle.std.proofs.lemmas.Nat.Gcd.{IsGcd-from_mod, IsGcd-from_zero}
use Rattle.riichi_chances.proofs.divisor.common_divisor.Goals as goal

pub loop-lesser-preserved : goal.loop-lesser-preserved
loop-lesser-preserved c divisor is = c.loop-lesser.invariant divisor (IsGcd-from_mod c.loop-lesser.greater c.loop-lesser.lesser divisor is)

pub returns : goal.returns
returns c =
    let none : c.loop-lesser.lesser ≡ 0 = let test = c.loop-lesser-test.false in omega (arith, test) in
    c.loop-lesser.invariant c.loop-lesser.greater (IsGcd-from_zero c.loop-lesser.greater c.loop-lesser.lesser none)
