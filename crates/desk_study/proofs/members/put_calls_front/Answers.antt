use Rattle.std.proofs.Common.{◌++◌, ◌∙◌, List, ℕ, ap}
use Rattle.std.proofs.Math.Facts.{to_z-of_z}
use Rattle.std.specs.Prelude.{codes}
use Rattle.std.specs.Fmt.{signed_decimal}
use mir.Syntax.{w8}
use mir.Val.{of_z, to_z}
use Rattle.desk_study.proofs.members.put_calls_front.Goals as goal

pub returns-clause-bytes : goal.returns-clause-bytes
returns-clause-bytes c =
    let before = c.args.outbox.now.bytes.items in
    let front : List ℕ = codes "\"answer\":\"calls\",\"shanten\":" ++ signed_decimal (to_z w8 (of_z w8 c.args.shanten)) in
    c.put_object_piece.ensures.bytes
    ∙ ap (λ (t : List ℕ). before ++ t) (c.push_str.ensures.bytes ∙ ap (λ (t : List ℕ). t ++ codes ",\"calls\":[") (c.push_calls_front.ensures.bytes ∙ ap (λ (t : List ℕ). t ++ front) c.clear.ensures))
    ∙ ap (λ z. before ++ (codes "\"answer\":\"calls\",\"shanten\":" ++ signed_decimal z ++ codes ",\"calls\":[")) (to_z-of_z {w = w8} {z = c.args.shanten} (record { sfits = c.ranges.shanten.sfits }))
