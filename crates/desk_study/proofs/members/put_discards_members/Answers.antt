use Rattle.std.proofs.Common.{◌++◌, ◌∙◌, List, ℕ, ap}
use Rattle.std.proofs.Math.Facts.{to_z-of_z}
use Rattle.std.specs.Prelude.{codes}
use Rattle.std.specs.Fmt.{signed_decimal}
use mir.Syntax.{w8}
use mir.Val.{of_z, to_z}
use Rattle.riichi_text.proofs.Pieces.{pushed-three}
use Rattle.desk_study.specs.Answers.{listed_there}
use Rattle.desk_study.specs.Objects.{order_json, prospect_json}
use Rattle.desk_study.proofs.members.put_discards_members.Goals as goal

pub returns-clause-bytes : goal.returns-clause-bytes
returns-clause-bytes c =
    let before = c.args.outbox.now.bytes.items in
    let order : List ℕ = order_json c.args.order in
    let listed : List ℕ = listed_there prospect_json c.args.list.now in
    pushed-three before (codes "\"answer\":\"shape\",\"shanten\":" ++ signed_decimal (to_z w8 (of_z w8 c.args.shanten)) ++ order) listed (codes "]}") c.put_order.ensures.bytes c.put_prospects.ensures.bytes c.put_list_end.ensures.bytes
    ∙ ap (λ z. before ++ (codes "\"answer\":\"shape\",\"shanten\":" ++ signed_decimal z ++ order ++ listed ++ codes "]}")) (to_z-of_z {w = w8} {z = c.args.shanten} (record { sfits = c.ranges.shanten.sfits }))
