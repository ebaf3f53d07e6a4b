use Rattle.std.proofs.Common.{[], ◌∷◌, codes}
use Rattle.riichi_explain.specs.Forms.{form_text, special_form_text, shanten_line}
use Rattle.riichi_text.proofs.Pieces.{pushed_five}
use Rattle.riichi_explain.proofs.forms.push_shanten_line.Goals as goal

pub returns-clause-bytes : goal.returns-clause-bytes
unfolding shanten_line
returns-clause-bytes c =
    let f = c.args.forms.now in
    pushed_five c.args.text.now.bytes (codes "  shanten ") (form_text (codes "sets and a pair ") f.sets_and_pair)
    (special_form_text (codes ", seven pairs ") f.seven_pairs) (special_form_text (codes ", thirteen orphans ") f.thirteen_orphans) (10 ∷ [])
    c.push_str.ensures.bytes c.push_form.ensures.bytes c.push_other.ensures.bytes c.push_other-2.ensures.bytes c.push_str-2.ensures.bytes
