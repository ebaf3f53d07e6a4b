use Rattle.riichi_explain.proofs.FormLemmas.{distances_of}
use Rattle.riichi_explain.proofs.forms.explain_shape.Goals as goal

pub returns-clause-forms : goal.returns-clause-forms
returns-clause-forms g c =
    let e = c.form_distances.ensures in
    distances_of c.tiles.result c.args.shape.now.tiles c.melds.result c.args.shape.now.melds c.form_distances.result c.tiles.ensures.value c.melds.ensures
    (record { sets_and_pair = e.sets_and_pair; seven_pairs = e.seven_pairs; thirteen_orphans = e.thirteen_orphans; least = e.least })
