use Rattle.std.proofs.Common.{◌≡◌, ◌∙◌, ◌+◌, ◌≤◌, [], ◌∷◌, ◌++◌, ap, refl, sym, append_assoc, arith}
use Rattle.std.proofs.lemmas.List.{append-nil}
use Rattle.desk_lines.specs.Lines.{ended_lines}
use Rattle.desk_lines.specs.Telling.{text_of, with_line_feed, answers_in, report_with, count_of}
use Rattle.desk_lines.proofs.AnswerLemmas.{AreTold_last}
use Rattle.desk_lines.proofs.TellingLemmas.{text_of_more}
use Rattle.desk_lines.specs.declared.report.DeskReport.{DeskReport}
use Rattle.desk_lines.specs.declared.tally.Tally.{Tally}
use Rattle.desk_lines.specs.Slips.{tally_of, tally_with}
use Rattle.desk_lines.proofs.SlipLemmas.{tally_of_more}
use Rattle.desk_lines.specs.declared.line_kind.LineKind.{LineKind}
use Rattle.desk_lines.specs.declared.line_kind.LineKind.TheVariants.{NoRecord, Answered, Refused}
use Rattle.desk_lines.proofs.piece.answer_piece.Goals as goal

-- a line is counted once at most
counted_one : (report : DeskReport) (kind : LineKind) → count_of (report_with report kind) ≤ count_of report + 1
counted_one report NoRecord = omega arith
counted_one report Answered = omega arith
counted_one report Refused = omega arith

pub loop-line-init : goal.loop-line-init
loop-line-init g c =
    let none = c.of_none-tally.ensures in (
      [],
      [],
      record {
        lines = refl;
        are_told = refl;
        answers = sym (append-nil c.args.answers.now.items);
        tally = none;
        count = omega (arith, ap (λ (t : Tally). count_of t.counts) none);
        lines_read = omega (arith, ap (λ (t : Tally). t.lines) none);
      },
    )

pub loop-line-preserved : goal.loop-line-preserved
loop-line-preserved g c =
    let so_far = c.loop-line.invariant in
    let done = so_far.0 in
    let told = so_far.1 in
    let line = c.in-Some.line.now in
    let cut = c.in-Some.ensures in
    let puts = c.respond-kind.ensures.puts in
    let may_be_told = g.met.A.Responder.by_outcome c.args.rules line puts.told puts.may_be_told in
    let tally = c.with_line-tally.ensures in
    let text = with_line_feed puts.told in
    let is : c.as_slice.result.now ≡ text = c.as_slice.ensures ∙ puts.put ∙ ap (λ b. b ++ text) c.clear.ensures in (
      done ++ line ∷ [],
      told ++ answers_in puts.told,
      record {
        lines = so_far.2.lines ∙ ap (λ rest. done ++ rest) cut.0 ∙ sym (append_assoc done (line ∷ []) (ended_lines c.in-Some.after.now));
        are_told = AreTold_last g.A.Responder.may_tell c.args.rules done line told puts.told so_far.2.are_told may_be_told;
        answers = c.in_ok-extend_from_slice.ensures.items ∙ ap (λ front. front ++ c.as_slice.result.now) so_far.2.answers ∙ ap (λ t. (c.args.answers.now.items ++ text_of told) ++ t) is
            ∙ append_assoc c.args.answers.now.items (text_of told) text ∙ ap (λ t. c.args.answers.now.items ++ t) (sym (text_of_more told puts.told));
        tally = tally ∙ ap (λ (t : Tally). tally_with t line c.respond-kind.result) so_far.2.tally ∙ ap (tally_with (tally_of c.args.rules done) line) c.respond-kind.ensures.kind
            ∙ sym (tally_of_more c.args.rules done line);
        count = let one = counted_one c.loop-line.tally.counts c.respond-kind.result in let same = ap (λ (t : Tally). count_of t.counts) tally in let shorter = cut.2 in let before = so_far.2.count in omega arith;
        lines_read = let same = ap (λ (t : Tally). t.lines) tally in let shorter = cut.2 in let before = so_far.2.lines_read in omega arith;
      },
    )
