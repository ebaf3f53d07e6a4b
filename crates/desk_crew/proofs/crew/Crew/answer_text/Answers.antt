use Rattle.std.proofs.lemmas.Result.{IfErr-weaker}
use Rattle.desk_crew.proofs.RoundLemmas.{left_by, last_stopped}
use Rattle.desk_crew.proofs.crew.Crew.answer_text.Goals as goal

pub returns-clause-err : goal.returns-clause-err
returns-clause-err g c =
    let may = g.A.Responder.may_tell in
    let read = c.in_ok-rounds.ensures.ok in
    let now = c.rounds.new.self in
    let reader = c.rounds.new.reader in
    IfErr-weaker c.end.result _ _ (λ fault stopped.
    left_by may g.R.Source g.W.Sink c.args.reader.now c.args.writer.now c.args.given reader c.end.new.writer fault
    (last_stopped may g.R.Source g.W.Sink c.args.reader.now c.args.writer.now c.args.given read.0 now.text.items now.standing reader c.rounds.new.writer c.end.new.writer fault read.1 read.2
    (stopped c.args.writer.now read.0 read.1.is_held read.1.stands))) c.end.ensures.err
