use Rattle.std.specs.Prelude.{codes}
use Rattle.riichi_text.proofs.Pieces.{pushed_four}
use Rattle.desk_reasons.specs.Parts.{shanten_json, shanten_if, forms_json}
use Rattle.desk_reasons.proofs.missed.push_forms.Goals as goal

pub returns-clause-bytes : goal.returns-clause-bytes
unfolding forms_json
returns-clause-bytes c =
    let forms = c.args.forms.now in
    pushed_four c.args.text.now.bytes (shanten_json (codes "{\"standard\":") forms.sets_and_pair) (shanten_if (codes ",\"seven_pairs\":") forms.seven_pairs)
    (shanten_if (codes ",\"thirteen_orphans\":") forms.thirteen_orphans) (codes "}")
    c.push_shanten.ensures.bytes c.push_shanten_if.ensures.bytes c.push_shanten_if-2.ensures.bytes c.push_str.ensures.bytes
