use Rattle.std.proofs.Common.{◌∙◌, ◌++◌, List, ℕ, ap}
use Rattle.std.proofs.lemmas.Result.{MatchResult-weaker}
use Rattle.desk_lines.specs.LineAnswer.{answer_of}
use Rattle.desk_lines.specs.Lines.{lines}
use Rattle.desk_lines.specs.Telling.{text_of}
use Rattle.desk_lines.proofs.AnswerLemmas.{answers_told}
use Rattle.desk_score.proofs.NumberedLemmas.{numbers_shown}
use Rattle.desk_score.proofs.tables.answer_table.Goals as goal

pub returns-then-is_numbered-clause-ok : goal.returns-then-is_numbered-clause-ok
returns-then-is_numbered-clause-ok g c = rw c.if-is_numbered.true (MatchResult-weaker c.numbered_text_by.result c.numbered_text_by.ensures.ok (λ report ok.
    let shown = numbers_shown c.args.rules (lines ok.0) ok.1 ok.3 in
    (ok.0, ok.2, ok.5.appended ∙ ap (λ text. c.args.answers.now.text.items ++ text) shown, ok.6))
    (λ fault told. told))

pub returns-clause-ok : goal.returns-clause-ok
returns-clause-ok g c = rw c.if-is_numbered.false (MatchResult-weaker c.answer_text.result c.answer_text.ensures.ok (λ report ok.
    let same = answers_told answer_of c.args.rules (lines ok.0) ok.2.told ok.2.are_told in
    (ok.0, ok.1, ok.2.writes.appended ∙ ap (λ (told : List (List ℕ)). c.args.answers.now.text.items ++ text_of told) same, ok.2.report_is))
    (λ fault told. told))
