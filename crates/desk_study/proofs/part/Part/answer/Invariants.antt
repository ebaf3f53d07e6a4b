use Rattle.std.proofs.Common.{◌≡◌, ◌+◌, ◌≤◌, ◌++◌, length}
use Rattle.desk_lines.specs.Lines.{lines}
use Rattle.desk_lines.specs.Telling.{both_reports, count_of, report_of, text_of}
use Rattle.desk_study.specs.Answers.{question_answers, question_kinds}
use Rattle.desk_study.proofs.part.Part.answer.Given as goal

-- the answers to the lines before the rest are there, and counted
abbrev pub invariant-loop-line : goal.invariant-loop-line
invariant-loop-line l = record {
  manner : l.questions.manner ≡ l.fn.manner;
  answers : text_of (question_answers l.fn.manner l.number (lines l.text)) ≡ l.answers.items ++ text_of (question_answers l.fn.manner l.next (lines l.rest));
  report : report_of (question_kinds l.number (lines l.text)) ≡ both_reports l.report (report_of (question_kinds l.next (lines l.rest)));
  numbers : l.next + length l.rest ≤ l.number + length l.text;
  count : count_of l.report + length l.rest ≤ length l.text;
}

abbrev pub decreases-loop-line : goal.decreases-loop-line
decreases-loop-line l = length l.rest
