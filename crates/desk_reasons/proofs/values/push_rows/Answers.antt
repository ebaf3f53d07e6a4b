use Rattle.std.proofs.Common.{◌++◌, ◌-◌, flat_map, length, take, drop, codes, sym, ap, ◌∙◌, append_assoc}
use Rattle.riichi_text.proofs.Items.{joined_items}
use Rattle.riichi_text.proofs.Pieces.{pushed-three}
use Rattle.desk_reasons.specs.Parts.{rows_json}
use Rattle.desk_reasons.proofs.values.push_rows.Goals as goal

pub returns-in-len1-up-clause-bytes : goal.returns-in-len1-up-clause-bytes
unfolding rows_json
returns-in-len1-up-clause-bytes g c =
    let text_of = g.T.Value.value_text in
    let old = c.args.text.now.bytes in
    let before = c.args.before.now in
    let first = c.first-item.result in
    let others = flat_map (λ next. codes "," ++ text_of next) (take (length c.args.rows.now - 1) (drop 1 c.args.rows.now)) in
    pushed-three old before (text_of first) others c.push_str.ensures.bytes c.push.ensures.bytes c.push_more.ensures.bytes
    ∙ ap (λ all. old ++ all) (append_assoc before (text_of first) others
    ∙ ap (λ all. before ++ all) (sym (joined_items (codes ",") text_of c.args.rows.now first c.in-len1-up.len_at_least c.first-item.is)))
