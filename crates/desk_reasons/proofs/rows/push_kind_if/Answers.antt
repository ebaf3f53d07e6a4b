use Rattle.std.proofs.Common.{◌++◌, sym, ap, ◌∙◌}
use Rattle.std.specs.Prelude.{codes}
use Rattle.riichi_text.specs.Tiles.{kind_text}
use Rattle.riichi_text.proofs.Pieces.{pushed-three}
use Rattle.desk_reasons.specs.Parts.{kind_if}
use Rattle.desk_reasons.proofs.rows.push_kind_if.Goals as goal

pub returns-in-Some-clause-bytes : goal.returns-in-Some-clause-bytes
unfolding kind_if
returns-in-Some-clause-bytes c =
    let old = c.args.text.now.bytes in
    pushed-three old (codes ",\"kind\":\"") (kind_text c.in-Some.kind) (codes "\"") c.push_str.ensures.bytes c.push_kind.ensures.bytes c.push_str-in-Some.ensures.bytes
    ∙ ap (λ kind. old ++ kind_if kind) (sym c.in-Some.is)
