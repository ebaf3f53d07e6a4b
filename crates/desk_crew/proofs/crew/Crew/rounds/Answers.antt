use Rattle.std.proofs.Common.{◌∙◌, ◌+◌, ◌++◌, ℕ, List, [], refl, sym, ap, subst}
use Rattle.std.specs.Prelude.{IfErr, OnOk}
use Rattle.std.proofs.lemmas.Result.{err_from_is_err_and}
use Rattle.desk_crew.specs.declared.reading.Stop.{Stop}
use Rattle.desk_crew.specs.Pieces.{answers_in_rooms}
use Rattle.desk_crew.specs.Crew.{IsBetween, IsLeft}
use Rattle.desk_crew.specs.Reading.{FindsEnd, IsStoppedBy}
use Rattle.desk_crew.proofs.RoundLemmas.{Ahead-new, Between-now, left_by, unsettled, unread, GoesOn-trans, FindsEnd-after, fails_after, goes_on, ends_so}
use Rattle.desk_crew.proofs.crew.Crew.rounds.Given.{Over}
use Rattle.desk_crew.proofs.crew.Crew.rounds.Goals.{In_ok-settle}
use Rattle.desk_crew.proofs.crew.Crew.rounds.Goals as goal

pub loop-stop-init : goal.loop-stop-init
loop-stop-init g c =
    let now = c.args.self.now in
    let new = c.requires.new in
    let none = c.requires.none in (
      [],
      record {
        ahead = Ahead-new g.A.Responder.may_tell g.R.Source g.W.Sink c.args.reader.now c.args.writer.now c.args.given now.text.items (answers_in_rooms now.waiting) now.standing none.0 none.1 new.0 new.1;
        goes_on = (refl, refl);
        calls = ap (λ n. g.R.Source.calls c.args.reader.now + n) c.requires.left;
      },
    )

pub returns-in_err-stop-clause-err : goal.returns-in_err-stop-clause-err
returns-in_err-stop-clause-err g c =
    let p = err_from_is_err_and c.from_residual.result c.from_residual.ensures.1 in
    let so_far = c.loop-stop.invariant in
    rw (p.1, p.2) (left_by g.A.Responder.may_tell g.R.Source g.W.Sink c.args.reader.now c.args.writer.now c.args.given c.turn.new.reader c.turn.new.writer c.in_err-stop.field-0.0
    (c.in_err-stop.ensures.err c.args.reader.now c.args.writer.now so_far.0 so_far.1.ahead))

pub loop-stop-preserved : goal.loop-stop-preserved
loop-stop-preserved g c =
    let so_far = c.loop-stop.invariant in
    let more = c.in_ok-stop.ensures.ok c.args.reader.now c.args.writer.now so_far.0 so_far.1.ahead in
    let full = goes_on c.in_ok-stop.stop (sym c.outcome.ensures ∙ c.in_default.is) in
    let stop = subst (λ (s : Stop). IsStoppedBy g.R.Source c.loop-stop.reader c.turn.new.reader c.turn.new.self.ahead.left s) full c.in_ok-stop.ensures.stop in (
      more.0,
      record { ahead = more.1; goes_on = GoesOn-trans g.R.Source c.args.reader.now c.loop-stop.reader c.turn.new.reader so_far.1.goes_on stop; calls = c.turn.ensures.calls ∙ so_far.1.calls },
    )

pub returns-in_err-settle-clause-err : goal.returns-in_err-settle-clause-err
returns-in_err-settle-clause-err g c =
    let p = err_from_is_err_and c.from_residual-in_err-settle.result c.from_residual-in_err-settle.ensures.1 in
    let so_far = c.loop-stop.invariant in
    let may = g.A.Responder.may_tell in
    let from = c.args.reader.now in
    let start = c.args.writer.now in
    let now = c.turn.new.self in
    let more = c.in_ok-stop.ensures.ok from start so_far.0 so_far.1.ahead in
    let ahead = more.1 in
    rw (p.1, p.2) (left_by may g.R.Source g.W.Sink from start c.args.given c.turn.new.reader c.settle.new.writer c.in_err-settle.field-0.0
    (unsettled may g.R.Source g.W.Sink from start c.args.given more.0 now.text.items (answers_in_rooms now.waiting) now.standing c.turn.new.reader c.turn.new.writer c.settle.new.writer c.in_err-settle.field-0.0 ahead
    (c.in_err-settle.ensures.err start)))

-- all that was read is answered, and the answers are written
between : (g : Over) (c : In_ok-settle g)
    → (text : List ℕ) × IsBetween g.A.Responder.may_tell g.R.Source g.W.Sink c.args.reader.now c.args.writer.now c.args.given text c.settle.new.self.text.items c.settle.new.self.standing c.turn.new.reader c.settle.new.writer
between g c =
    let so_far = c.loop-stop.invariant in
    let from = c.args.reader.now in
    let start = c.args.writer.now in
    let now = c.turn.new.self in
    let more = c.in_ok-stop.ensures.ok from start so_far.0 so_far.1.ahead in (
      more.0 ++ more.1.bytes,
      Between-now g.A.Responder.may_tell g.R.Source g.W.Sink from start c.args.given more.0 now.text.items (answers_in_rooms now.waiting) c.settle.new.self.text.items now.standing c.settle.new.self.standing c.turn.new.reader c.turn.new.writer c.settle.new.writer more.1
          c.in_ok-settle.ensures.held (c.in_ok-settle.ensures.ok start),
    )

pub returns-in-Some-clause-err : goal.returns-in-Some-clause-err
returns-in-Some-clause-err g c =
    let so_far = c.loop-stop.invariant in
    let now = c.turn.new.self in
    let last = c.settle.new.self in
    let all = between g (goal.at.returns-in-Some-clause-err g c).In_ok-settle in
    let left = IsLeft g.A.Responder.may_tell g.R.Source g.W.Sink c.args.reader.now c.turn.new.reader c.args.writer.now c.settle.new.writer c.args.given in
    ends_so (λ end. IfErr end left) c.in_ok-stop.stop c.in-Some.end (sym c.outcome.ensures ∙ c.in-Some.is) (λ ended. tt) (λ failed.
    let stop = subst (λ (s : Stop). IsStoppedBy g.R.Source c.loop-stop.reader c.turn.new.reader now.ahead.left s) failed c.in_ok-stop.ensures.stop in
    unread g.A.Responder.may_tell g.R.Source g.W.Sink c.args.reader.now c.args.writer.now c.args.given all.0 last.text.items last.standing c.turn.new.reader c.settle.new.writer all.1
    (fails_after g.R.Source c.args.reader.now c.loop-stop.reader c.turn.new.reader now.ahead.left so_far.1.goes_on (c.turn.ensures.calls ∙ so_far.1.calls) stop))

pub returns-in-Some-clause-ok : goal.returns-in-Some-clause-ok
returns-in-Some-clause-ok g c =
    let so_far = c.loop-stop.invariant in
    let now = c.turn.new.self in
    let last = c.settle.new.self in
    let found = between g (goal.at.returns-in-Some-clause-ok g c).In_ok-settle in
    let all = (text : List ℕ)
    × IsBetween g.A.Responder.may_tell g.R.Source g.W.Sink c.args.reader.now c.args.writer.now c.args.given text last.text.items last.standing c.turn.new.reader c.settle.new.writer
    × FindsEnd g.R.Source c.args.reader.now c.turn.new.reader in
    ends_so (λ end. OnOk end all) c.in_ok-stop.stop c.in-Some.end (sym c.outcome.ensures ∙ c.in-Some.is) (λ ended.
    let stop = subst (λ (s : Stop). IsStoppedBy g.R.Source c.loop-stop.reader c.turn.new.reader now.ahead.left s) ended c.in_ok-stop.ensures.stop in
    (found.0, found.1, FindsEnd-after g.R.Source c.args.reader.now c.loop-stop.reader c.turn.new.reader so_far.1.goes_on stop)) (λ failed. tt)
