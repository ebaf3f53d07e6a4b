use Rattle.std.proofs.Common.{◌≡◌, ◌+◌, ◌-◌, ◌≤◌, ◌∙◌, ◌++◌, length, length-set, drop, refl, sym, ap, below_more, arith}
use Rattle.riichi_desk_c.specs.Replies.{reply_to}
use Rattle.riichi_desk_c.specs.Rows.{answer_place, replies_to, row_text}
use Rattle.riichi_arrays.proofs.ColumnLemmas.{fill_next}
use Rattle.riichi_desk_c.proofs.RowLemmas.{left_long, longer_room, place_next, replies_next}
use Rattle.riichi_desk_c.proofs.rows.riichi_answer_rows.Goals as goal

pub loop-row-preserved : goal.loop-row-preserved
loop-row-preserved c =
    let kept = c.loop-row.invariant in
    let number = c.args.rules in
    let bytes = c.args.bytes.now in
    let offsets = c.args.offsets.now in
    let row = c.loop-row.row in
    let told = replies_to number bytes offsets row in
    let before = c.args.room.now in
    let filled = c.loop-row.filled in
    let k = length c.loop-row.room - filled in
    let text : c.in-Some.text.now ≡ row_text bytes offsets row = c.in-Some.ensures.2 in
    let more = reply_to number c.in-Some.text.now in
    let needed : c.riichi_answer-needed.result ≡ length more = c.riichi_answer-needed.ensures.needed in
    let same : length more ≡ length (reply_to number (row_text bytes offsets row)) = ap (λ t. length (reply_to number t)) text in
    let long = left_long told before c.loop-row.room filled k kept.filled kept.fits kept.room refl in
    let few : length more ≤ k = omega arith in
    let next : filled + c.riichi_answer-needed.result ≡ answer_place number bytes offsets (row + 1) = omega (arith, place_next number bytes offsets row, kept.filled, needed, same) in
    record {
      are_rows = below_more _ _ kept.are_rows (record { order = c.in-Some.ensures.0; within = c.in-Some.ensures.1 });
      filled = next;
      fits = omega (arith, kept.fits, few, needed);
      room = longer_room told before c.loop-row.room filled k kept.filled kept.fits kept.room refl _ more few (c.riichi_answer-needed.ensures.fits (omega (arith, long, few)))
          ∙ ap (λ t. (told ++ reply_to number t) ++ drop (filled + length more) before) text
          ∙ ap (λ all. all ++ drop (filled + length more) before) (sym (replies_next number bytes offsets row))
          ∙ ap (λ n. replies_to number bytes offsets (row + 1) ++ drop (filled + n) before) (sym needed);
      places = fill_next (answer_place number bytes offsets) (row + 1) (row + 1 + 1) c.args.answer_offsets.now c.loop-row.answer_offsets _ kept.places (omega (arith, c.loop-row-test.true, c.min-rows.ensures, length-set c.args.answer_offsets.now 0 0)) next refl;
    }
