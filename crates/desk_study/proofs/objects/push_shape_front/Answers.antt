use Rattle.std.proofs.Common.{◌++◌, ◌∙◌, ap}
use Rattle.std.proofs.Math.Facts.{to_z-of_z}
use Rattle.std.specs.Prelude.{codes}
use Rattle.std.specs.Fmt.{signed_decimal}
use mir.Syntax.{w8}
use mir.Val.{of_z, to_z}
use Rattle.riichi_text.proofs.Pieces.{pushed-two}
use Rattle.desk_study.proofs.objects.push_shape_front.Goals as goal

pub returns-clause-bytes : goal.returns-clause-bytes
returns-clause-bytes c =
    let before = c.args.text.now.bytes in
    pushed-two before (codes "\"answer\":\"shape\",\"shanten\":") (signed_decimal (to_z w8 (of_z w8 c.args.shanten))) c.push_str.ensures.bytes c.push_number.ensures.bytes
    ∙ ap (λ z. before ++ (codes "\"answer\":\"shape\",\"shanten\":" ++ signed_decimal z)) (to_z-of_z {w = w8} {z = c.args.shanten} (record { sfits = c.ranges.shanten.sfits }))
