use Rattle.std.proofs.Common.{rules, ℕ, List, ◌++◌, ap, sym, subst, refl, arith}
use Rattle.std.specs.Vec.{with_items}
use Rattle.std.proofs.lemmas.Result.{err_from_is_err_and}
use Rattle.desk_lines.specs.Lines.{ended_lines}
use Rattle.desk_lines.specs.LongLines.{AreAlike}
use Rattle.desk_lines.specs.Reading.{AreToldAs, kept}
use Rattle.desk_crew.specs.declared.standing.Standing.{Standing}
use Rattle.desk_crew.specs.Pieces.{answers_in_rooms}
use Rattle.desk_crew.proofs.CrewLemmas.{Waits-more, still_some}
use Rattle.desk_crew.proofs.RoundLemmas.{later_lines, told_so, stuck, unanswered, Ahead-more}
use Rattle.desk_crew.proofs.crew.Crew.turn.Given.{Over}
use Rattle.desk_crew.proofs.crew.Crew.turn.Goals as goal

alike : (g : Over) → AreAlike g.A.Responder.may_tell
alike g = let laws = g.met.A.Responder g.world.𝓛 g.world.𝓜 g.world.𝓡 ((λ s x. x), (λ x. x), (λ x. x), λ x. x) in laws.alike

pub returns-in_err-stop-clause-err : goal.returns-in_err-stop-clause-err
returns-in_err-stop-clause-err g c =
    let p = err_from_is_err_and c.from_residual.result c.from_residual.ensures.1 in
    let old = c.args.self.now in
    rw (p.1, p.2) (λ from start text ahead.
    let up = stuck g.A.Responder.may_tell g.R.Source g.W.Sink from start c.args.given text old.text.items (answers_in_rooms old.waiting) (answers_in_rooms old.waiting) old.standing c.args.reader.now _ c.args.writer.now _ c.in_err-stop.field-0.0 ahead
    refl c.in_err-stop.ensures.other.met.1.1 in
    search (rules, up))

pub returns-in_err-gather-clause-err : goal.returns-in_err-gather-clause-err
returns-in_err-gather-clause-err g c =
    let p = err_from_is_err_and c.from_residual-in_err-gather.result c.from_residual-in_err-gather.ensures.1 in
    let old = c.args.self.now in
    rw (p.1, p.2) (λ from start text ahead.
    let up = unanswered g.A.Responder.may_tell g.R.Source g.W.Sink from start c.args.given text old.text.items (answers_in_rooms old.waiting) (answers_in_rooms old.waiting) (kept 8194 c.as_slice-text.result.now) _ old.standing c.args.reader.now _ c.args.writer.now _ _ c.in_ok-stop.stop c.in_err-gather.field-0.0 ahead
    refl c.in_ok-stop.ensures.other.met.1.0 c.in_err-gather.ensures.err in
    search (rules, up))

pub returns-clause-ok : goal.returns-clause-ok
returns-clause-ok g c from start text ahead =
    let may = g.A.Responder.may_tell in
    let old = c.args.self.now in
    let begun = c.begin-rules in
    let next : Standing = record { profile = begun.new.self.profile; tally = c.gather.new.tally } in
    let hand = ended_lines c.as_slice-text.result.now in
    let as_these = subst (λ (t : List ℕ). AreToldAs 4096 (ended_lines t) (later_lines text ahead.bytes)) (sym c.as_slice-text.ensures.value) (told_so may g.R.Source g.W.Sink from start c.args.given text old.text.items (answers_in_rooms old.waiting) old.standing c.args.reader.now c.args.writer.now ahead) in
    let further = Ahead-more may g.R.Source g.W.Sink from start c.args.given text old.text.items (answers_in_rooms old.waiting) c.as_slice-text.result.now (answers_in_rooms old.waiting) _ c.swap.new.x.items (answers_in_rooms c.gather.new.self) old.standing next c.args.reader.now _ c.args.writer.now _ _ c.in_ok-stop.stop ahead
    c.as_slice-text.ensures.value refl c.in_ok-stop.ensures.other.met.1.0 (ap (λ v. v.items) c.swap.ensures.x_after)
    (λ stands.
    Waits-more may g.W.Sink start c.args.given (alike g) begun.result.0 (ended_lines text) hand (later_lines text ahead.bytes) (ended_lines begun.result.1.now) old.standing begun.new.self next _ (answers_in_rooms c.gather.new.self) as_these stands
    begun.ensures.profile begun.ensures.rules begun.ensures.records begun.ensures.tally c.in_ok-gather.ensures.ok refl) in
    (text ++ ahead.bytes, search (rules, further))

pub invariant_of-self : goal.invariant_of-self
invariant_of-self g c = record { some = still_some c.args.self.now.shares c.answer_beside.new.shares (omega arith) (omega arith) }

pub invariant_of-self-in-Break-branch-2 : goal.invariant_of-self-in-Break-branch-2
invariant_of-self-in-Break-branch-2 g c = record { some = still_some (with_items c.args.self.now.shares c.answer_beside.new.shares) c.gather.new.shares (omega arith) (omega arith) }

pub invariant_of-self-2 : goal.invariant_of-self-2
invariant_of-self-2 g c = record { some = still_some (with_items c.args.self.now.shares c.answer_beside.new.shares) c.gather.new.shares (omega arith) (omega arith) }
