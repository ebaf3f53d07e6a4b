use Rattle.std.proofs.Common.{◌≡◌, ◌∙◌, List, ℕ, Err, ap, subst}
use Rattle.desk_lines.specs.declared.fault.DeskFault.TheVariants.{Read, Write}
use Rattle.desk_lines.specs.LineAnswer.{answer_of}
use Rattle.desk_lines.specs.Lines.{ended_lines}
use Rattle.desk_lines.specs.Streams.{WritesAll}
use Rattle.desk_lines.specs.Telling.{text_of}
use Rattle.desk_lines.proofs.AnswerLemmas.{answers_told, front_told}
use Rattle.desk_lines.proofs.text.desk_text.Goals as goal

pub returns-clause-read_failed : goal.returns-clause-read_failed
returns-clause-read_failed g c failed =
    let fault : c.in-Err.fault ≡ Read = (let it = failed in cc) in
    let is = c.desk_text_by.ensures.read_failed (c.in-Err.is ∙ ap Err fault) in
    let text = is.1.0 in
    (is.0, (text, is.1.2, subst (λ (told : List (List ℕ)). WritesAll g.W.Sink c.args.writer.now c.desk_text_by.new.writer (text_of told)) (answers_told answer_of c.args.rules (ended_lines text) is.1.1 is.1.3) is.1.4))

pub returns-clause-write_failed : goal.returns-clause-write_failed
returns-clause-write_failed g c failed =
    let fault : c.in-Err.fault ≡ Write = (let it = failed in cc) in
    let is = c.desk_text_by.ensures.write_failed (c.in-Err.is ∙ ap Err fault) in
    (is.0, is.1, is.5, is.6, front_told answer_of g.W.Sink c.args.writer.now c.desk_text_by.new.writer c.args.rules is.1 is.2 is.3 is.4 is.7 is.8 is.9)
