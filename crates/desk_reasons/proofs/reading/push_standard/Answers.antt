use Rattle.std.proofs.Common.{◌++◌, map, ap, ◌∙◌}
use Rattle.std.specs.Prelude.{codes}
use Rattle.riichi_text.proofs.Pieces.{pushed_four}
use Rattle.desk_reasons.specs.Parts.{rows_json, pair_json, quoted_block, standard_json}
use Rattle.desk_reasons.proofs.reading.push_standard.Goals as goal

pub returns-clause-bytes : goal.returns-clause-bytes
unfolding standard_json
returns-clause-bytes c =
    let old = c.args.text.now.bytes in
    let before = codes "{\"form\":\"standard\",\"sets\":[" in
    pushed_four old (rows_json before (map quoted_block c.args.sets.now)) (pair_json c.args.pair) (quoted_block c.args.done.now) (codes "}")
    (c.push_rows.ensures.bytes ∙ ap (λ sets. old ++ rows_json before (map quoted_block sets)) c.as_slice.ensures.value)
    c.push_pair.ensures.bytes c.push.ensures.bytes c.push_str.ensures.bytes
