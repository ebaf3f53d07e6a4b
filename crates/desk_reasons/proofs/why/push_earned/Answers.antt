use Rattle.std.proofs.Common.{◌++◌, map, ap, ◌∙◌}
use Rattle.std.specs.Prelude.{codes}
use Rattle.riichi_text.proofs.Pieces.{pushed_four}
use Rattle.desk_reasons.specs.Parts.{rows_json, reading_json, han_row_json, dora_row_json, earned_json}
use Rattle.desk_reasons.proofs.why.push_earned.Goals as goal

pub returns-clause-bytes : goal.returns-clause-bytes
unfolding earned_json
returns-clause-bytes c =
    let hand = c.args.hand.now in
    let han = codes ",\"han\":[" in
    let dora = codes "],\"dora\":[" in
    pushed_four c.args.text.now.bytes (codes "{\"reading\":") (reading_json hand.reading) (rows_json han (map han_row_json hand.han.items)) (rows_json dora (map dora_row_json hand.dora.items))
    c.push_str.ensures.bytes c.push_reading.ensures.bytes
    (c.push_rows.ensures.bytes ∙ ap (λ rows. c.push_reading.new.text.bytes ++ rows_json han (map han_row_json rows)) c.as_slice.ensures.value)
    (c.push_rows-2.ensures.bytes ∙ ap (λ rows. c.push_rows.new.text.bytes ++ rows_json dora (map dora_row_json rows)) c.as_slice-2.ensures.value)
