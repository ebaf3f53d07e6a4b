use Rattle.std.proofs.Common.{◌∙◌, ap}
use Rattle.std.proofs.lemmas.Result.{err_from_is_err_and}
use Rattle.desk_lines.specs.Lines.{cut_of, ended_lines, last_line}
use Rattle.desk_crew.specs.Pieces.{answers_in_rooms}
use Rattle.desk_crew.proofs.CrewLemmas.{Answered-now, Waits-nothing, Stopped-memory}
use Rattle.desk_crew.proofs.RoundLemmas.{last_so}
use Rattle.desk_crew.proofs.crew.Crew.end.Goals as goal

pub returns-in_err-end_line-clause-err : goal.returns-in_err-end_line-clause-err
returns-in_err-end_line-clause-err g c =
    let p = err_from_is_err_and c.from_residual.result c.from_residual.ensures.1 in
    rw (p.1, p.2) (λ start text held stands.
    Stopped-memory g.A.Responder.may_tell g.W.Sink start c.args.given (ended_lines text) (last_line (cut_of text).rest) c.args.self.now.standing c.args.writer.now stands)

pub returns-in_err-settle-clause-err : goal.returns-in_err-settle-clause-err
returns-in_err-settle-clause-err g c =
    let p = err_from_is_err_and c.from_residual-in_err-settle.result c.from_residual-in_err-settle.ensures.1 in
    let old = c.args.self.now in
    let now = c.end_line.new.self in
    let same = c.end_line.ensures.same in
    rw (p.1, p.2) (λ start text held stands.
    c.in_err-settle.ensures.err start (ended_lines text) (last_line (cut_of text).rest) (last_so text old.text.items now.text.items held c.in_ok-end_line.ensures.text)
    (Waits-nothing g.A.Responder.may_tell g.W.Sink start c.args.given (ended_lines text) old.standing now.standing c.args.writer.now (answers_in_rooms now.waiting) same.0 (ap answers_in_rooms same.1 ∙ c.requires.none) stands))

pub returns-clause-ok : goal.returns-clause-ok
returns-clause-ok g c start text held stands =
    let old = c.args.self.now in
    let now = c.end_line.new.self in
    let same = c.end_line.ensures.same in
    Answered-now g.A.Responder.may_tell g.W.Sink start c.args.given _ c.settle.new.self.standing c.settle.new.writer c.report.result
    (c.in_ok-settle.ensures.ok start (ended_lines text) (last_line (cut_of text).rest) (last_so text old.text.items now.text.items held c.in_ok-end_line.ensures.text)
    (Waits-nothing g.A.Responder.may_tell g.W.Sink start c.args.given (ended_lines text) old.standing now.standing c.args.writer.now (answers_in_rooms now.waiting) same.0 (ap answers_in_rooms same.1 ∙ c.requires.none) stands))
    c.report.ensures.counts c.report.ensures.slip
