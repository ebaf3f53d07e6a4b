use Rattle.std.proofs.Common.{◌++◌, map, ap, ◌∙◌}
use Rattle.std.specs.Prelude.{codes}
use Rattle.riichi_text.proofs.Pieces.{pushed_four}
use Rattle.desk_reasons.specs.Parts.{rows_json, fu_row_json, pay_row_json, other_reading_json, paid_json}
use Rattle.desk_reasons.proofs.why.push_paid.Goals as goal

pub returns-clause-bytes : goal.returns-clause-bytes
unfolding paid_json
returns-clause-bytes c =
    let hand = c.args.hand.now in
    let old = c.args.text.now.bytes in
    let fu = codes "],\"fu\":[" in
    let pays = codes "],\"payments\":[" in
    pushed_four old (rows_json fu (map fu_row_json hand.fu.items)) (rows_json pays (map pay_row_json hand.payers.items)) (rows_json (codes "],\"others\":[") (map other_reading_json c.args.others.now)) (codes "]}")
    (c.push_rows.ensures.bytes ∙ ap (λ rows. old ++ rows_json fu (map fu_row_json rows)) c.as_slice.ensures.value)
    (c.push_rows-2.ensures.bytes ∙ ap (λ rows. c.push_rows.new.text.bytes ++ rows_json pays (map pay_row_json rows)) c.as_slice-2.ensures.value)
    c.push_rows-3.ensures.bytes c.push_str.ensures.bytes
