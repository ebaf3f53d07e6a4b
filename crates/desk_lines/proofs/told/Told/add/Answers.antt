use Rattle.std.proofs.Common.{◌+◌, List, [], ◌∷◌, ℕ, sym, subst}
use Rattle.std.proofs.lemmas.Result.{err_from_is_err_and}
use Rattle.desk_lines.specs.Told.{Stands, lines_of}
use Rattle.desk_lines.specs.declared.outbox.Outbox.{Outbox}
use Rattle.desk_lines.specs.Telling.{AnswersLine}
use Rattle.desk_lines.specs.Streams.{StopsWriting, WritesAll}
use Rattle.desk_lines.proofs.ToldLemmas.{Stands_line, Stands_flushed, Stands_stops, Stands_no_memory}
use Rattle.desk_lines.proofs.told.Told.add.Goals as goal
use Rattle.desk_lines.proofs.told.Told.add.Given.{Over}
use Rattle.desk_lines.proofs.told.Told.add.Goals.{After-tell, then-not-has_room+in_ok-flush, else-not-has_room}

-- what was answered before, with room for any answer
stood : (g : Over) (c : After-tell g) (start : g.row.W.Denot) (first : g.row.T.Denot) (lines : List (List ℕ)) → Stands g.W.Sink g.T.Teller start first lines c.args.teller.now c.args.self.now c.args.writer.now
    → Stands g.W.Sink g.T.Teller start first lines c.args.teller.now c.if-not-has_room.self c.if-not-has_room.writer
stood g c start first lines stands = elim c.if-not-has_room.branch [
  | then-not-has_room+in_ok-flush w ↦
      rw (w.self-is, w.writer-is) (Stands_flushed g.W.Sink g.T.Teller start first lines c.args.teller.now c.args.self.now _ c.args.writer.now _ stands w.in_ok-flush.ensures.writes w.flush.ensures.report w.in_ok-flush.ensures.empty)
  | else-not-has_room w ↦ rw (w.self-is, w.writer-is) stands
]

pub returns-in-Ok-clause-stands : goal.returns-in-Ok-clause-stands
returns-in-Ok-clause-stands g c start first lines next as_this stands =
    let teller = g.T.Teller in
    let before = c.if-not-has_room.self in
    let told = subst (λ (box : Outbox). AnswersLine teller.written teller.most teller.tells c.args.teller.now c.tell.new.self (lines_of before + 1) c.args.line.now c.in-Ok.kind before.outbox.bytes.items box.bytes.items)
    (sym c.count.ensures.outbox) c.in-Ok.ensures.told in
    Stands_line g.W.Sink teller start first lines c.args.teller.now c.tell.new.self before c.count.new.self c.if-not-has_room.writer c.args.line.now next c.in-Ok.kind as_this (stood g (goal.at.returns-in-Ok-clause-stands g c).After-tell start first lines stands)
    told c.count.ensures.report c.count.ensures.lines

-- memory was wanted, and then the answers before could not be written
pub returns-in_err-flush-in-Err-clause-stops : goal.returns-in_err-flush-in-Err-clause-stops
returns-in_err-flush-in-Err-clause-stops g c =
    let p = err_from_is_err_and c.from_residual-in_err-flush-in-Err.result c.from_residual-in_err-flush-in-Err.ensures.1 in
    let stops = c.in_err-flush-in-Err.ensures.writes in
    let same = c.in-Err.ensures.err.0 in
    rw (p.1, p.2, stops.0) (λ start first lines next as_this stands.
    Stands_stops g.W.Sink g.T.Teller start first lines (next ∷ []) c.args.teller.now c.if-not-has_room.self c.if-not-has_room.writer c.flush-in-Err.new.writer (stood g (goal.at.returns-in_err-flush-in-Err-clause-stops g c).After-tell start first lines stands)
    (subst (λ (text : List ℕ). StopsWriting g.W.Sink c.if-not-has_room.writer c.flush-in-Err.new.writer text) same stops.1))

pub returns-in_ok-flush-in-Err-clause-stops : goal.returns-in_ok-flush-in-Err-clause-stops
returns-in_ok-flush-in-Err-clause-stops g c start first lines next as_this stands =
    Stands_no_memory g.W.Sink g.T.Teller start first lines c.args.teller.now c.if-not-has_room.self c.if-not-has_room.writer c.flush-in-Err.new.writer c.args.line.now next as_this
    (stood g (goal.at.returns-in_ok-flush-in-Err-clause-stops g c).After-tell start first lines stands)
    (subst (λ (text : List ℕ). WritesAll g.W.Sink c.if-not-has_room.writer c.flush-in-Err.new.writer text) c.in-Err.ensures.err.0 c.in_ok-flush-in-Err.ensures.writes) c.in-Err.ensures.err.1

pub returns-in_err-flush-clause-stops : goal.returns-in_err-flush-clause-stops
returns-in_err-flush-clause-stops g c =
    let p = err_from_is_err_and c.from_residual.result c.from_residual.ensures.1 in
    let stops = c.in_err-flush.ensures.writes in
    rw (p.1, p.2, stops.0) (λ start first lines next as_this stands.
    Stands_stops g.W.Sink g.T.Teller start first lines (next ∷ []) c.args.teller.now c.args.self.now c.args.writer.now c.flush.new.writer stands stops.1)
