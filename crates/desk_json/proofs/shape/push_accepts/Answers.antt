use Rattle.std.proofs.Common.{◌++◌, sym, ap, ◌∙◌}
use Rattle.std.specs.Prelude.{codes}
use Rattle.desk_json.specs.Parts.{accepts_json, discards_json}
use Rattle.desk_json.proofs.Behind.{three}
use Rattle.desk_json.proofs.shape.push_accepts.Goals as goal

pub returns-in-Fourteen : goal.returns-in-Fourteen
unfolding accepts_json
returns-in-Fourteen c =
    let before = c.args.text.now.bytes in
    c.push_str-in-Fourteen.ensures.bytes
    ∙ ap (λ t. t ++ codes "]}") (c.push_discards.ensures.bytes ∙ ap (λ t. t ++ discards_json c.in-Fourteen.discards) c.push_str.ensures.bytes)
    ∙ three before (codes "\"discards\":[") (discards_json c.in-Fourteen.discards) (codes "]}")
    ∙ ap (λ accepts. before ++ accepts_json accepts) (sym c.in-Fourteen.is)
