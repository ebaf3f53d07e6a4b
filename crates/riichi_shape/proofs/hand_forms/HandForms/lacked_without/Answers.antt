use Rattle.std.proofs.Common.{◌-◌, ap}
use Rattle.std.specs.Prelude.{slice_index}
use Rattle.riichi_shape.specs.Accepted.{without_one}
use Rattle.riichi_shape.proofs.KeptJoins.{set_differs}
use Rattle.riichi_shape.proofs.Nearer.{lacked_of}
use Rattle.riichi_shape.proofs.hand_forms.HandForms.lacked_without.Goals as goal

pub returns : goal.returns
returns c =
    let hand = c.args.hand.now in
    let rest = without_one hand c.args.kind in
    let melds = c.args.melds.now in
    let differ = set_differs hand c.args.kind (slice_index hand c.args.kind - 1) in
    let rows = c.with_row-rows.ensures.rows hand rest melds c.requires.forms.are_rows differ c.requires.row in
    lacked_of rest melds c.args.least c.count.ensures.melds.at_most_four c.requires.melded c.requires.least (4 - c.count.result) (ap (λ n. 4 - n) c.count.ensures.value) _
    (c.lacked.ensures rest melds rows c.with_row.ensures c.requires.melded) (λ none_less. c.lacked_without.ensures)
