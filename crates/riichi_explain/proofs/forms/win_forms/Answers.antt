use Rattle.riichi_score.specs.Scores.{completed_hand}
use Rattle.riichi_explain.proofs.FormLemmas.{melds_of_win, distances_of}
use Rattle.riichi_explain.proofs.forms.win_forms.Goals as goal

pub form_distances-requires : goal.form_distances-requires
form_distances-requires g c = λ kind low. melds_of_win c.args.win.now c.melds.result kind c.hand_of.ensures.win c.melds.ensures low

pub returns-clause-forms : goal.returns-clause-forms
returns-clause-forms g c =
    let e = c.form_distances.ensures in
    distances_of c.hand_of.result (completed_hand c.args.win.now) c.melds.result c.args.win.now.melds c.form_distances.result c.hand_of.ensures.value c.melds.ensures
    (record { sets_and_pair = e.sets_and_pair; seven_pairs = e.seven_pairs; thirteen_orphans = e.thirteen_orphans; least = e.least })
