use Rattle.std.proofs.Common.{◌≡◌, Bool, true, false, refl, ap, ◌∙◌, ltb, arith}
use Rattle.std.specs.Int.{from_bool}
use Rattle.riichi_shape.proofs.special.SpecialLacked.kinds.Goals as goal

told : (b : Bool) → ltb 0 (from_bool b) ≡ b
told true = refl
told false = refl

pub returns : goal.returns
returns c = λ kind low. c.of.ensures.each kind ∙ ap (ltb 0) (c.loop-kind.invariant.done kind (omega (arith, low))) ∙ told _
