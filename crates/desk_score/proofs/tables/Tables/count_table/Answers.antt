use Rattle.std.proofs.Common.{◌∙◌, ◌≤◌, ◌+◌, ℕ, List, [], ◌∷◌, ◌++◌, Option, ap, sym, arith}
use Rattle.std.proofs.lemmas.List.{length-append, map-append}
use Rattle.desk_core.specs.declared.lane.TheConstants.{LIMIT}
use Rattle.desk_lines.specs.LineAnswers.{report_on}
use Rattle.desk_lines.specs.Lines.{lines}
use Rattle.desk_lines.specs.declared.report.Slip.{Slip}
use Rattle.desk_lines.specs.declared.report.TextReport.{TextReport}
use Rattle.desk_lines.specs.Slips.{text_report}
use Rattle.desk_score.specs.Score.{score_slips}
use Rattle.desk_score.proofs.ScoreLemmas.{score_report-last, All-front, All-at_last, All-and_last}
use Rattle.desk_score.proofs.tables.Tables.count_table.Goals as goal

pub returns-clause-ok : goal.returns-clause-ok
returns-clause-ok c given texts text counted report =
    let old = c.args.self.now in
    let sum = c.in_ok-self.field-0 in
    let few = (λ (t : List ℕ). (report_on given (lines t)).answered ≤ LIMIT) in
    let answered = ap (λ (r : TextReport). r.counts.answered) report in
    let limit = c.are_within_limit-self.ensures in record {
      count = c.in_ok-self-2.ensures.ok ∙ ap (λ (n : ℕ). n + 1) counted.count ∙ sym (length-append texts (text ∷ []));
      limit = (
        λ now. let both = limit.0 now in All-and_last few texts text (counted.limit.0 both.0) (let jobs = both.1 in omega arith),
        λ all. limit.1 (counted.limit.1 (All-front few texts text all), let last = All-at_last few texts text all in omega arith),
      );
      report = score_report-last given texts text old.report sum counted.report (c.in_ok-self.ensures.ok.0 ∙ ap (λ (r : TextReport). old.report.answered + r.counts.answered) report)
          (c.in_ok-self.ensures.ok.1 ∙ ap (λ (r : TextReport). old.report.refused + r.counts.refused) report);
      slips = c.in_ok-push_slip.ensures.ok ∙ ap (λ (s : List (Option Slip)). s ++ c.args.report.slip ∷ []) counted.slips ∙ ap (λ (r : TextReport). score_slips given texts ++ r.slip ∷ []) report ∙ sym (map-append (λ (t : List ℕ). (text_report given (lines t)).slip) texts (text ∷ []));
    }
