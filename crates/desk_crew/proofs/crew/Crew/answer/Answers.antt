use Rattle.std.proofs.Common.{rules, ℕ, List, ◌++◌, sym, subst, refl, arith}
use Rattle.std.specs.Vec.{with_items}
use Rattle.std.proofs.lemmas.Result.{err_from_is_err_and}
use Rattle.desk_lines.specs.declared.fault.DeskFault.{DeskFault}
use Rattle.desk_lines.specs.Lines.{ended_lines}
use Rattle.desk_lines.specs.LongLines.{AreAlike}
use Rattle.desk_lines.specs.Reading.{AreToldAs}
use Rattle.desk_crew.specs.Pieces.{answers_in_rooms}
use Rattle.desk_crew.specs.Crew.{Stands, Waits, Stopped}
use Rattle.desk_crew.specs.declared.standing.Standing.{Standing}
use Rattle.desk_crew.proofs.CrewLemmas.{Waits-more, Stands-now, Stopped-now, Stopped-memory, stops_writing, still_some}
use Rattle.desk_crew.proofs.crew.Crew.answer.Given.{Over}
use Rattle.desk_crew.proofs.crew.Crew.answer.Goals.{In_ok-answer_beside}
use Rattle.desk_crew.proofs.crew.Crew.answer.Goals as goal

alike : (g : Over) → AreAlike g.A.Responder.may_tell
alike g = let laws = g.met.A.Responder g.world.𝓛 g.world.𝓜 g.world.𝓡 ((λ s x. x), (λ x. x), (λ x. x), λ x. x) in laws.alike

-- what waited is written
stands : (g : Over) (c : In_ok-answer_beside g) (start : g.row.W.Denot) (lines : List (List ℕ)) → Waits g.A.Responder.may_tell g.W.Sink start c.args.given lines c.args.self.now.standing c.args.writer.now (answers_in_rooms c.args.self.now.waiting)
    → Stands g.A.Responder.may_tell g.W.Sink start c.args.given lines c.args.self.now.standing c.answer_beside.new.other.1.now
stands g c start lines waits =
    Stands-now g.A.Responder.may_tell g.W.Sink start c.args.given lines c.args.self.now.standing c.args.writer.now c.answer_beside.new.other.1.now (answers_in_rooms c.args.self.now.waiting) waits
    c.in_ok-answer_beside.ensures.other.met.1

pub returns-in_err-answer_beside-clause-err : goal.returns-in_err-answer_beside-clause-err
returns-in_err-answer_beside-clause-err g c =
    let p = err_from_is_err_and c.from_residual.result c.from_residual.ensures.1 in
    let sink = g.W.Sink in
    let old = c.args.writer.now in
    let new = c.answer_beside.new.other.1.now in
    let waiting = (answers_in_rooms c.args.self.now.waiting) in
    let fault = c.in_err-answer_beside.field-0.0 in
    let failed = c.in_err-answer_beside.ensures.other.met.1 in
    rw (p.1, p.2) (λ start lines next as_these waits.
    let stopped = Stopped-now g.A.Responder.may_tell sink start c.args.given lines next c.args.self.now.standing old new waiting fault waits
    (stops_writing g.A.Responder.may_tell sink start c.args.given old new fault waiting failed) in
    search (rules, stopped))

pub returns-in_err-hold-clause-err : goal.returns-in_err-hold-clause-err
returns-in_err-hold-clause-err g c =
    let p = err_from_is_err_and c.from_residual-in_err-hold.result c.from_residual-in_err-hold.ensures.1 in
    let at = (goal.at.returns-in_err-hold-clause-err g c).In_ok-answer_beside in
    rw (p.1, p.2) (λ start lines next as_these waits.
    let stopped = Stopped-memory g.A.Responder.may_tell g.W.Sink start c.args.given lines next c.args.self.now.standing c.answer_beside.new.other.1.now (stands g at start lines waits) in
    search (rules, stopped))

pub returns-in_err-gather-clause-err : goal.returns-in_err-gather-clause-err
returns-in_err-gather-clause-err g c =
    let p = err_from_is_err_and c.from_residual-in_err-gather.result c.from_residual-in_err-gather.ensures.1 in
    let at = (goal.at.returns-in_err-gather-clause-err g c).In_ok-answer_beside in
    let may = g.A.Responder.may_tell in
    let new = c.answer_beside.new.other.1.now in
    rw (p.1, p.2) (λ start lines next as_these waits.
    let stopped = subst (λ (fault : DeskFault). Stopped may g.W.Sink start new c.args.given (lines ++ next) fault) (sym c.in_err-gather.ensures.err)
    (Stopped-memory may g.W.Sink start c.args.given lines next c.args.self.now.standing new (stands g at start lines waits)) in
    search (rules, stopped))

pub returns-clause-ok : goal.returns-clause-ok
returns-clause-ok g c start lines next as_these waits =
    let begun = c.begin-rules in
    let new : Standing = record { profile = begun.new.self.profile; tally = c.gather.new.tally } in
    let told = stands g (goal.at.returns-clause-ok g c).In_ok-answer_beside start lines waits in
    let more = Waits-more g.A.Responder.may_tell g.W.Sink start c.args.given (alike g) begun.result.0 lines (ended_lines c.as_slice-text.result.now) next (ended_lines begun.result.1.now)
    c.args.self.now.standing begun.new.self new c.answer_beside.new.other.1.now (answers_in_rooms c.gather.new.self)
    (subst (λ (text : List ℕ). AreToldAs 4096 (ended_lines text) next) (sym c.as_slice-text.ensures.value) as_these) told
    begun.ensures.profile begun.ensures.rules begun.ensures.records begun.ensures.tally c.in_ok-gather.ensures.ok refl in
    search (rules, more)

pub invariant_of-self : goal.invariant_of-self
invariant_of-self g c = record { some = still_some c.args.self.now.shares c.answer_beside.new.shares (omega arith) (omega arith) }

pub invariant_of-self-in-Break-branch-2 : goal.invariant_of-self-in-Break-branch-2
invariant_of-self-in-Break-branch-2 g c = record { some = still_some c.args.self.now.shares c.answer_beside.new.shares (omega arith) (omega arith) }

pub invariant_of-self-2 : goal.invariant_of-self-2
invariant_of-self-2 g c = record { some = still_some (with_items c.args.self.now.shares c.answer_beside.new.shares) c.gather.new.shares (omega arith) (omega arith) }

pub invariant_of-self-in-Break-branch-3 : goal.invariant_of-self-in-Break-branch-3
invariant_of-self-in-Break-branch-3 g c = record { some = still_some (with_items c.args.self.now.shares c.answer_beside.new.shares) c.gather.new.shares (omega arith) (omega arith) }
