use Rattle.std.proofs.Common.{◌↔◌, IsTrue, rules}
use Rattle.riichi_split.proofs.AnyTile.{HasShape, form-iff}
use Rattle.riichi_split.proofs.winning.has_winning_form.Goals as goal

pub returns-else-are_seven_pairs-clause-form : goal.returns-else-are_seven_pairs-clause-form
returns-else-are_seven_pairs-clause-form c =
    let form = form-iff c.args.counts.now c.args.melds in
    let shape : IsTrue c.are_thirteen_orphans.result ↔ HasShape c.args.counts.now c.args.melds = search rules in
    (λ t. form.0 (shape.0 t), λ has. shape.1 (form.1 has))
