use Rattle.std.proofs.Common.{Err, ◌∙◌, ◌++◌, [], List, Bool, length, take, ap, sym, subst, refl, arith, length-take, ◌≡◌, ℕ}
use Rattle.std.proofs.KnownBytes.{Consumes-nil}
use Rattle.std.proofs.lemmas.List.{append-nil}
use Rattle.desk_lines.specs.declared.fault.DeskFault.{DeskFault}
use Rattle.desk_lines.specs.declared.fault.DeskFault.TheVariants.{Read, Write, Memory}
use Rattle.desk_lines.specs.declared.report.DeskReport.{DeskReport}
use Rattle.desk_lines.specs.Told.{Stands, StopsTelling}
use Rattle.desk_lines.specs.Lines.{cut_of, lines, last_line, ended_lines}
use Rattle.desk_lines.specs.Reading.{IsRead, IsStopped}
use Rattle.desk_lines.specs.Telling.{count_of}
use Rattle.desk_lines.proofs.ToldLemmas.{Stands-new, Stands_flushed, Stands-written, Stands_stops}
use Rattle.desk_lines.proofs.CutLemmas.{ended_lines-more}
use Rattle.desk_lines.proofs.ReadingLemmas.{told_more, keeps_more, Whole, at_end, whole_lines}
use Rattle.desk_lines.proofs.StreamLemmas.{Gives-more, err_at, passed_on}
use Rattle.desk_lines.proofs.stream.answer_lines.Given.{Over}
use Rattle.desk_lines.proofs.stream.answer_lines.Goals.{After-add_lines}
use Rattle.desk_lines.proofs.stream.answer_lines.Goals as goal

pub loop-turn-init : goal.loop-turn-init
loop-turn-init g c =
    let source = g.R.Source in (
      [],
      record {
        gives = record { appended = sym (append-nil (source.given c.args.reader.now)); taken = Consumes-nil (source.left c.args.reader.now) };
        held = c.new-held.ensures;
        stands = Stands-new g.W.Sink g.T.Teller c.args.writer.now c.args.teller.now c.new-told.result c.requires.new c.new-told.ensures.report c.new-told.ensures.none c.new-told.ensures.outbox;
        empty = c.new-told.ensures.outbox;
        reads = refl;
        calls = omega arith;
        ends = refl;
        count = let none = ap count_of c.new-told.ensures.report in let unread = c.new-told.ensures.none in omega arith;
      },
    )

pub read_behind-requires : goal.read_behind-requires
read_behind-requires g c =
    let held = c.as_slice.ensures ∙ c.loop-turn.invariant.1.held in
    omega (arith, ap length held, length-take 8194 (cut_of c.loop-turn.invariant.0).rest)

gave : (g : Over) (c : After-add_lines g) → Whole g.R.Source c.args.reader.now c.loop-turn.reader c.read_behind.new.reader g.T.Teller.most c.requires.most c.loop-turn.invariant.0 c.as_slice.result.now (take c.in_ok-len.len c.read_behind.new.room)
gave g c =
    let so_far = c.loop-turn.invariant.1 in
    whole_lines g.R.Source c.args.reader.now c.loop-turn.reader c.read_behind.new.reader g.T.Teller.most c.requires.most c.loop-turn.invariant.0 c.as_slice.result.now (take c.in_ok-len.len c.read_behind.new.room) c.in_ok-len.is_end
    so_far.gives (c.as_slice.ensures ∙ so_far.held) c.in_ok-len.ensures.read.1

-- the first of them were answered
stopped : (g : Over) (c : After-add_lines g) (after : g.row.W.Denot) (fault : DeskFault)
    → StopsTelling g.W.Sink g.T.Teller c.args.writer.now after c.args.teller.now fault (ended_lines c.loop-turn.invariant.0 ++ (gave g c).2)
    → IsStopped g.R.Source g.W.Sink g.T.Teller c.args.reader.now c.read_behind.new.reader c.args.writer.now after c.args.teller.now fault
stopped g c after fault stops =
    let all = gave g c in
    (all.0, all.1, all.3, all.4, subst (λ (ls : List (List ℕ)). StopsTelling g.W.Sink g.T.Teller c.args.writer.now after c.args.teller.now fault ls) (sym all.5) stops)

-- the writing of these lines' answers stopped
stops_here : (g : Over) (c : After-add_lines g) (fault other : DeskFault) → c.add_lines.result ≡ Err fault → fault ≡ other
    → StopsTelling g.W.Sink g.T.Teller c.args.writer.now c.add_lines.new.writer c.args.teller.now other (ended_lines c.loop-turn.invariant.0 ++ (gave g c).2)
stops_here g c fault other is same =
    let all = gave g c in
    let stops = err_at c.add_lines.result _ c.add_lines.ensures.stops fault is in
    subst (λ (f : DeskFault). StopsTelling g.W.Sink g.T.Teller c.args.writer.now c.add_lines.new.writer c.args.teller.now f (ended_lines c.loop-turn.invariant.0 ++ all.2)) same
    (stops c.args.writer.now c.args.teller.now (ended_lines c.loop-turn.invariant.0) all.2 all.6 c.loop-turn.invariant.1.stands)

pub returns-in_err-rest-clause-read_failed : goal.returns-in_err-rest-clause-read_failed
returns-in_err-rest-clause-read_failed g c is =
    absurd (stops_here g (goal.at.returns-in_err-rest-clause-read_failed g c).After-add_lines c.in_err-rest.field-0.0 Read c.in_err-rest.was (passed_on c.from_residual-in_err-rest.result c.in_err-rest.field-0.0 Read c.from_residual-in_err-rest.ensures.1 is)).stops

pub returns-in_err-rest-clause-write_failed : goal.returns-in_err-rest-clause-write_failed
returns-in_err-rest-clause-write_failed g c is =
    let here = (goal.at.returns-in_err-rest-clause-write_failed g c).After-add_lines in
    stopped g here c.add_lines.new.writer Write (stops_here g here c.in_err-rest.field-0.0 Write c.in_err-rest.was (passed_on c.from_residual-in_err-rest.result c.in_err-rest.field-0.0 Write c.from_residual-in_err-rest.ensures.1 is))

pub returns-in_err-rest-clause-no_memory : goal.returns-in_err-rest-clause-no_memory
returns-in_err-rest-clause-no_memory g c is =
    let here = (goal.at.returns-in_err-rest-clause-no_memory g c).After-add_lines in
    stopped g here c.add_lines.new.writer Memory (stops_here g here c.in_err-rest.field-0.0 Memory c.in_err-rest.was (passed_on c.from_residual-in_err-rest.result c.in_err-rest.field-0.0 Memory c.from_residual-in_err-rest.ensures.1 is))

pub returns-in_err-flush-clause-write_failed : goal.returns-in_err-flush-clause-write_failed
returns-in_err-flush-clause-write_failed g c is =
    let here = (goal.at.returns-in_err-flush-clause-write_failed g c).After-add_lines in
    let all = gave g here in
    let before = ended_lines c.loop-turn.invariant.0 in
    let stands = c.in_ok-rest.ensures.stands c.args.writer.now c.args.teller.now before all.2 all.6 c.loop-turn.invariant.1.stands in
    stopped g here c.flush.new.writer Write
    (subst (λ (ls : List (List ℕ)). StopsTelling g.W.Sink g.T.Teller c.args.writer.now c.flush.new.writer c.args.teller.now Write ls) (append-nil (before ++ all.2))
    (Stands_stops g.W.Sink g.T.Teller c.args.writer.now c.args.teller.now (before ++ all.2) [] c.add_lines.new.teller c.add_lines.new.self c.add_lines.new.writer c.flush.new.writer stands c.in_err-flush.ensures.writes.1))

pub returns-then-is_end-clause-ok : goal.returns-then-is_end-clause-ok
returns-then-is_end-clause-ok g c =
    let so_far = c.loop-turn.invariant.1 in
    let text = c.loop-turn.invariant.0 in
    let sink = g.W.Sink in
    let teller = g.T.Teller in
    let source = g.R.Source in
    let new = c.read_behind.new.reader in
    let given = take c.in_ok-len.len c.read_behind.new.room in
    let read = subst (λ (is_end : Bool). IsRead source c.loop-turn.reader new c.as_slice.result.now given is_end) c.if-is_end.true c.in_ok-len.ensures.read.1 in
    let end = at_end source c.args.reader.now c.loop-turn.reader new teller.most c.requires.most text c.as_slice.result.now given so_far.gives (c.as_slice.ensures ∙ so_far.held) read in
    let added = c.in_ok-rest.ensures.stands c.args.writer.now c.args.teller.now (ended_lines text) (last_line (cut_of text).rest) end.1 so_far.stands in
    let stands = Stands_flushed sink teller c.args.writer.now c.args.teller.now (lines text) c.add_lines.new.teller c.add_lines.new.self c.flush.new.self c.add_lines.new.writer c.flush.new.writer added c.in_ok-flush.ensures.writes c.flush.ensures.report c.in_ok-flush.ensures.empty in (
      text,
      stands.answers,
      record { gives = end.0; ended = read.end.1; found = let once = read.end.3 in let before = so_far.ends in omega arith; none_left = read.end.2; not_failed = read.not_failed ∙ so_far.reads },
      subst (λ (r : DeskReport). teller.tells c.args.teller.now c.add_lines.new.teller (lines text) stands.answers r) (sym c.report.ensures) stands.tells,
      Stands-written sink teller c.args.writer.now c.args.teller.now (lines text) c.add_lines.new.teller c.flush.new.self c.flush.new.writer stands c.in_ok-flush.ensures.empty,
    )

pub loop-turn-preserved : goal.loop-turn-preserved
loop-turn-preserved g c =
    let so_far = c.loop-turn.invariant.1 in
    let text = c.loop-turn.invariant.0 in
    let sink = g.W.Sink in
    let teller = g.T.Teller in
    let source = g.R.Source in
    let new = c.read_behind.new.reader in
    let given = take c.in_ok-len.len c.read_behind.new.room in
    let is = c.as_slice.ensures ∙ so_far.held in
    let read = subst (λ (is_end : Bool). IsRead source c.loop-turn.reader new c.as_slice.result.now given is_end) c.if-is_end.false c.in_ok-len.ensures.read.1 in
    let later = ended_lines ((cut_of text).rest ++ read.bytes) in
    let added = c.in_ok-rest.ensures.stands c.args.writer.now c.args.teller.now (ended_lines text) later (told_more teller.most c.requires.most text c.as_slice.result.now read.bytes given is read.text_is) so_far.stands in
    let flushed = Stands_flushed sink teller c.args.writer.now c.args.teller.now (ended_lines text ++ later) c.add_lines.new.teller c.add_lines.new.self c.flush.new.self c.add_lines.new.writer c.flush.new.writer added c.in_ok-flush.ensures.writes c.flush.ensures.report c.in_ok-flush.ensures.empty in
    let keeps = keeps_more teller.most c.requires.most text c.as_slice.result.now read.bytes given is read.text_is in (
      text ++ read.bytes,
      record {
        gives = Gives-more source c.args.reader.now c.loop-turn.reader new text read.bytes so_far.gives read.gives.appended read.gives.taken;
        held = c.hold.ensures ∙ ap (λ front. take 8194 (front ++ c.in_ok-rest.rest.now)) c.clear.ensures ∙ ap (take 8194) c.in_ok-rest.ensures.rest ∙ sym keeps;
        stands = subst (λ (ls : List (List ℕ)). Stands sink teller c.args.writer.now c.args.teller.now ls c.add_lines.new.teller c.flush.new.self c.flush.new.writer) (sym (ended_lines-more text read.bytes)) flushed;
        empty = c.in_ok-flush.ensures.empty;
        reads = read.not_failed ∙ so_far.reads;
        calls = let more = c.read_behind.ensures.calls in let before = so_far.calls in omega arith;
        ends = read.end ∙ so_far.ends;
        count = let more = c.add_lines.ensures.count in let before = so_far.count in let same = ap count_of c.flush.ensures.report.0 in let unread = c.flush.ensures.report.1 in let lengths = length-take c.in_ok-len.len c.read_behind.new.room in let within = c.in_ok-len.ensures.read.0 in omega arith;
      },
    )
