use Rattle.std.proofs.Common.{◌++◌, ◌∙◌, List, ℕ, ap}
use Rattle.std.proofs.Math.Facts.{to_z-of_z}
use mir.Syntax.{w8}
use mir.Val.{of_z, to_z}
use Rattle.riichi_text.proofs.Pieces.{pushed-two}
use Rattle.desk_study.specs.ChanceObjects.{chances_name, counted_front, front_json}
use Rattle.desk_study.proofs.chance_objects.push_chances_front.Goals as goal

pub returns-clause-bytes : goal.returns-clause-bytes
returns-clause-bytes c =
    let before : List ℕ = c.args.text.now.bytes in
    pushed-two before chances_name (counted_front (to_z w8 (of_z w8 c.args.shanten)) c.args.turns c.args.unseen) c.push_str.ensures.bytes c.push_counted_front.ensures.bytes
    ∙ ap (λ z. before ++ front_json chances_name z c.args.turns c.args.unseen) (to_z-of_z {w = w8} {z = c.args.shanten} (record { sfits = c.ranges.shanten.sfits }))
