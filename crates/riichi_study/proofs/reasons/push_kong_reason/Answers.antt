use Rattle.std.proofs.Common.{◌++◌, ◌∙◌, Option, sym, ap}
use Rattle.std.specs.Prelude.{codes}
use Rattle.riichi_text.proofs.Pieces.{pushed-three}
use Rattle.riichi_text.specs.Tiles.{meld_text}
use Rattle.riichi_tiles.specs.declared.meld.Meld.TheVariants.{Kan}
use Rattle.riichi_shape.specs.declared.shape_answer.ShapeAnswer.{ShapeAnswer}
use Rattle.riichi_study.specs.Reasons.{kong_reason}
use Rattle.riichi_study.proofs.reasons.push_kong_reason.Goals as goal

pub returns-in-Some-clause-bytes : goal.returns-in-Some-clause-bytes
returns-in-Some-clause-bytes c =
    let before = c.args.text.now.bytes in
    pushed-three before (codes "\n  ") (meld_text (Kan c.args.tile)) (codes ": brings the hand no nearer") c.push_str.ensures.bytes c.push_meld.ensures.bytes c.push_str-in-Some.ensures.bytes
    ∙ ap (λ (answer : Option ShapeAnswer). before ++ kong_reason c.args.tile answer) (sym c.in-Some.is)
