use Rattle.std.proofs.Common.{◌++◌, ◌∙◌, List, ℕ, ap, decimal}
use Rattle.std.proofs.Math.Facts.{to_z-of_z}
use Rattle.std.specs.Fmt.{signed_decimal}
use Rattle.std.specs.Prelude.{codes}
use mir.Syntax.{w8}
use mir.Val.{of_z, to_z}
use Rattle.riichi_text.proofs.Pieces.{pushed-two, pushed_four}
use Rattle.desk_study.specs.ChanceObjects.{counted_front}
use Rattle.desk_study.proofs.chance_objects.push_counted_front.Goals as goal

pub returns-clause-bytes : goal.returns-clause-bytes
returns-clause-bytes c =
    let before : List ℕ = c.args.text.now.bytes in
    let name : List ℕ = codes "\"shanten\":" in
    let shanten : List ℕ = signed_decimal (to_z w8 (of_z w8 c.args.shanten)) in
    let turns : List ℕ = codes ",\"turns\":" in
    let first : List ℕ = name ++ shanten ++ turns ++ decimal c.args.turns in
    let unseen : List ℕ = codes ",\"unseen\":" in
    pushed-two before (first ++ unseen ++ decimal c.args.unseen) (codes ",\"counted\":")
    (pushed-two before (first ++ unseen) (decimal c.args.unseen)
    (pushed-two before first unseen (pushed_four before name shanten turns (decimal c.args.turns) c.push_str.ensures.bytes c.push_number.ensures.bytes c.push_str-2.ensures.bytes c.push_number-2.ensures.bytes) c.push_str-3.ensures.bytes)
    c.push_number-3.ensures.bytes) c.push_str-4.ensures.bytes
    ∙ ap (λ z. before ++ counted_front z c.args.turns c.args.unseen) (to_z-of_z {w = w8} {z = c.args.shanten} (record { sfits = c.ranges.shanten.sfits }))
