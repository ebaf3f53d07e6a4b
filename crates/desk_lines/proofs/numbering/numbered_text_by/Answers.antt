use Rattle.std.proofs.Common.{◌∙◌}
use Rattle.riichi_hand.specs.Rules.{Rules}
use Rattle.desk_lines.specs.Lines.{lines}
use Rattle.desk_lines.specs.Numbered.{NumberRecords}
use Rattle.desk_lines.proofs.NumberLemmas.{without_numbers_told}
use Rattle.desk_lines.proofs.SlipLemmas.{report_told}
use Rattle.desk_lines.proofs.numbering.numbered_text_by.Goals as goal

pub returns-in-Ok-clause-ok : goal.returns-in-Ok-clause-ok
returns-in-Ok-clause-ok g c =
    let all = c.in-Ok.ensures.ok in
    let tells = all.3 in
    let told = report_told (λ (given : Rules). NumberRecords g.A.Responder.may_tell given (lines all.0) all.1) c.answer_lines.new.teller.records c.args.rules (lines all.0) c.in-Ok.counts c.report.result
    (tells.0 ∙ c.new-numbered.ensures.given) tells.1 tells.2 c.report.ensures.counts c.report.ensures.slip in
    (all.0, all.1, all.2, told.0, without_numbers_told g.A.Responder.may_tell c.args.rules (lines all.0) all.1 told.0, all.4, told.1)
