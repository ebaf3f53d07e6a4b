use Rattle.std.proofs.Common.{◌∙◌, ℕ, List, inr, ap, subst, sym}
use Rattle.std.proofs.lemmas.Bool.{false≢true}
use Rattle.std.proofs.lemmas.Result.{IfOk-weaker}
use Rattle.desk_lines.specs.Streams.{WritesAll}
use Rattle.desk_score.proofs.score.score_text_with.Goals as goal

pub returns-clause-ok : goal.returns-clause-ok
returns-clause-ok g c =
    let all = c.in_ok-tables.ensures.ok in
    let counted = all.2.counted in
    IfOk-weaker c.write_tables.result _ _
    (λ report said. (all.0, all.1, counted.limit.0 said.0, subst (λ (told : List ℕ). WritesAll g.W.Sink c.args.writer.now c.write_tables.new.writer told) all.2.told said.1, said.2 ∙ counted.report, ap (λ s. s.items) said.3 ∙ counted.slips))
    c.write_tables.ensures.ok

pub returns-clause-range : goal.returns-clause-range
returns-clause-range g c is =
    let all = c.in_ok-tables.ensures.ok in
    let no = c.write_tables.ensures.range.0 is in
    inr (all.0, all.1, λ within. false≢true (sym no ∙ all.2.counted.limit.1 within))
