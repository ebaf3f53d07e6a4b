use Rattle.std.proofs.Common.{◌≡◌, ◌∙◌, ◌+◌, ◌≤◌, ℕ, List, ◌++◌, ap, sym, append_assoc, arith}
use Rattle.std.proofs.lemmas.List.{append-nil}
use Rattle.desk_lines.specs.Lines.{lines}
use Rattle.desk_lines.specs.Telling.{both_reports, count_of, report_of, report_with, text_of, with_line_feed}
use Rattle.desk_lines.specs.declared.line_kind.LineKind.{LineKind}
use Rattle.desk_lines.specs.declared.line_kind.LineKind.TheVariants.{NoRecord, Answered, Refused}
use Rattle.desk_lines.specs.declared.report.DeskReport.{DeskReport}
use Rattle.desk_study.specs.Answers.{question_answer, question_answers, question_kind, question_kinds}
use Rattle.desk_study.specs.declared.form.StudiesManner.{StudiesManner}
use Rattle.desk_study.proofs.PartLemmas.{both-none, lines_first, none-both, report_first, text_first}
use Rattle.desk_study.proofs.part.Part.answer.Goals as goal

-- a line is counted once at most
counted_one : (report : DeskReport) (kind : LineKind) → count_of (report_with report kind) ≤ count_of report + 1
counted_one report NoRecord = omega arith
counted_one report Answered = omega arith
counted_one report Refused = omega arith

pub loop-line-init : goal.loop-line-init
loop-line-init c =
    let all = lines c.args.text.now in
    record {
      manner = c.new-questions.ensures;
      answers = sym (ap (λ (front : List ℕ). front ++ text_of (question_answers c.args.manner c.args.number all)) c.new-answers.ensures.items);
      report = none-both (report_of (question_kinds c.args.number all));
      numbers = omega arith;
      count = omega arith;
    }

pub loop-line-preserved : goal.loop-line-preserved
loop-line-preserved c =
    let so_far = c.loop-line.invariant in
    let number = c.loop-line.next in
    let before = c.loop-line.answers.items in
    let report = c.loop-line.report in
    let manner = c.args.manner in
    let line = c.in-Some.line.now in
    let others = lines c.in-Some.after.now in
    let first = c.in-Some.ensures in
    let cut = lines_first c.loop-line.rest.now line c.in-Some.after.now first in
    let text = with_line_feed (question_answer manner number line) in
    let more = text_of (question_answers manner (number + 1) others) in
    let kinds = question_kinds (number + 1) others in
    let put : c.as_slice.result.now ≡ text =
    c.as_slice.ensures ∙ c.in_ok-kind.ensures.put ∙ ap (λ (b : List ℕ). b ++ with_line_feed (question_answer c.loop-line.questions.manner number line)) c.clear.ensures
    ∙ ap (λ (m : StudiesManner). with_line_feed (question_answer m number line)) so_far.manner in
    let counted = c.counted-report.ensures in
    record {
      manner = c.in_ok-kind.ensures.manner ∙ so_far.manner;
      answers =
          so_far.answers ∙ ap (λ (ls : List (List ℕ)). before ++ text_of (question_answers manner number ls)) cut ∙ ap (λ (t : List ℕ). before ++ t) (text_first manner number line others)
          ∙ sym (append_assoc before text more) ∙ ap (λ (front : List ℕ). front ++ more) (sym (c.in_ok-extend_from_slice.ensures.items ∙ ap (λ (t : List ℕ). before ++ t) put));
      report =
          so_far.report ∙ ap (λ (ls : List (List ℕ)). both_reports report (report_of (question_kinds number ls))) cut ∙ report_first report (question_kind number line) kinds
          ∙ ap (λ (r : DeskReport). both_reports r (report_of kinds)) (sym (counted ∙ ap (report_with report) c.in_ok-kind.ensures.kind));
      numbers = omega (arith, so_far.numbers, first.shorter);
      count = omega (arith, so_far.count, first.shorter, ap count_of counted, counted_one report c.in_ok-kind.kind);
    }

pub returns : goal.returns
returns c =
    let so_far = c.loop-line.invariant in
    let manner = c.args.manner in
    let number = c.loop-line.next in
    let before = c.loop-line.answers.items in
    let report = c.loop-line.report in
    let none = c.in_default.ensures in
    record {
      answers_are = sym (so_far.answers ∙ ap (λ (t : List ℕ). before ++ text_of (question_answers manner number (lines t))) none ∙ append-nil before);
      report_is = sym (so_far.report ∙ ap (λ (t : List ℕ). both_reports report (report_of (question_kinds number (lines t)))) none ∙ both-none report);
    }
