use Rattle.std.proofs.Common.{◌≡◌, ◌∙◌, ◌+◌, inr, ℕ, List, ◌++◌, sym, subst, ap, length, length-append, drop, arith}
use Rattle.desk_lines.specs.Lines.{lines}
use Rattle.desk_lines.specs.Records.{AreTold}
use Rattle.desk_lines.specs.Telling.{text_of, with_line_feed, answers_in}
use Rattle.desk_lines.proofs.AnswerLemmas.{AreTold_last}
use Rattle.desk_lines.proofs.FillingLemmas.{front_longer, no_room, longer_room}
use Rattle.desk_lines.proofs.TellingLemmas.{text_of_more}
use Rattle.desk_lines.proofs.filling.fill_by.Goals as goal

pub loop-line-preserved : goal.loop-line-preserved
loop-line-preserved g c =
    let kept = c.loop-line.invariant in
    let front = kept.0 in
    let told = kept.1 in
    let more = front_longer c.args.text.now front c.loop-line.rest.now kept.2.cut c.in-Some.line.now c.in-Some.after.now c.in-Some.ensures in
    let puts = c.respond.ensures.puts in
    let may_be_told = g.met.A.Responder.by_outcome c.args.rules c.in-Some.line.now puts.told puts.may_be_told in
    let put = c.put_at.ensures.put c.if-not-put_at.false in
    let text = with_line_feed puts.told in
    let is : c.as_slice-told.result.now ≡ text = c.as_slice-told.ensures ∙ puts.put ∙ ap (λ b. b ++ text) c.clear.ensures in
    let all = text_of_more told puts.told in
    let longer = longer_room (text_of told) c.as_slice-told.result.now c.args.room.now c.loop-line.room c.put_at.new.room c.loop-line.filled kept.2.filled kept.2.within kept.2.room put.1 in (
      front ++ c.in-Some.ensures.front,
      told ++ answers_in puts.told,
      record {
        cut = more.0;
        are_told = subst (λ (ls : List (List ℕ)). AreTold g.A.Responder.may_tell c.args.rules ls (told ++ answers_in puts.told)) (sym more.1)
            (AreTold_last g.A.Responder.may_tell c.args.rules (lines front) c.in-Some.line.now told puts.told kept.2.are_told may_be_told);
        filled = omega (arith, ap length is, ap length all, length-append (text_of told) text, kept.2.filled);
        within = omega (arith, put.0);
        room = longer ∙ ap (λ t. (text_of told ++ t) ++ drop (c.loop-line.filled + length c.as_slice-told.result.now) c.args.room.now) is
            ∙ ap (λ t. t ++ drop (c.loop-line.filled + length c.as_slice-told.result.now) c.args.room.now) (sym all);
      },
    )

pub returns-then-not-put_at : goal.returns-then-not-put_at
returns-then-not-put_at g c =
    let kept = c.loop-line.invariant in
    let puts = c.respond.ensures.puts in
    let may_be_told = g.met.A.Responder.by_outcome c.args.rules c.in-Some.line.now puts.told puts.may_be_told in
    let left = c.put_at.ensures.left c.if-not-put_at.true in
    let text = with_line_feed puts.told in
    let is : c.as_slice-told.result.now ≡ text = c.as_slice-told.ensures ∙ puts.put ∙ ap (λ b. b ++ text) c.clear.ensures in
    record {
      front = kept.0;
      rest = c.loop-line.rest.now;
      cut = kept.2.cut;
      taken_is = omega (arith, ap length kept.2.cut.parts, length-append kept.0 c.loop-line.rest.now);
      told = kept.1;
      are_told = kept.2.are_told;
      filled_is = kept.2.filled;
      is_within = kept.2.within;
      room_is = left.1 ∙ kept.2.room;
      stops = inr (no_room g.A.Responder.may_tell c.args.rules c.in-Some.line.now c.loop-line.rest.now c.in-Some.after.now c.in-Some.ensures puts.told may_be_told c.loop-line.filled (length c.args.room.now) kept.2.within
          (omega (arith, left.0, ap length is, ap length kept.2.room)));
    }
