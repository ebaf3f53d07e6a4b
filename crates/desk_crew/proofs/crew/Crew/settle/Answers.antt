use Rattle.std.proofs.Common.{[], ◌++◌}
use Rattle.std.proofs.lemmas.Result.{err_from_is_err_and}
use Rattle.desk_crew.specs.Pieces.{answers_in_rooms}
use Rattle.desk_crew.proofs.CrewLemmas.{Stands-now, Stopped-all, Stopped-now, stops_writing}
use Rattle.desk_crew.proofs.crew.Crew.settle.Goals as goal

pub returns-in_err-write-clause-err : goal.returns-in_err-write-clause-err
returns-in_err-write-clause-err g c =
    let p = err_from_is_err_and c.from_residual-in_err-write.result c.from_residual-in_err-write.ensures.1 in
    let may = g.A.Responder.may_tell in
    let sink = g.W.Sink in
    let now = c.answer.new.self in
    let old = c.answer.new.writer in
    let new = c.write.new.writer in
    let waiting = (answers_in_rooms now.waiting) in
    let fault = c.in_err-write.field-0.0 in
    rw (p.1, p.2) (λ start lines next as_these waits.
    Stopped-all may sink start c.args.given (lines ++ next) new fault
    (Stopped-now may sink start c.args.given (lines ++ next) [] now.standing old new waiting fault (c.in_ok-answer.ensures.ok start lines next as_these waits)
    (stops_writing may sink start c.args.given old new fault waiting c.in_err-write.ensures)))

pub returns-clause-ok : goal.returns-clause-ok
returns-clause-ok g c start lines next as_these waits =
    let now = c.answer.new.self in
    let old = c.answer.new.writer in
    let new = c.write.new.writer in
    Stands-now g.A.Responder.may_tell g.W.Sink start c.args.given (lines ++ next) now.standing old new (answers_in_rooms now.waiting) (c.in_ok-answer.ensures.ok start lines next as_these waits)
    c.in_ok-write.ensures
