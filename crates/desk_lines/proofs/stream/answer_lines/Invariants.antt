use Rattle.std.proofs.Common.{◌≡◌, ℕ, ◌+◌, ◌*◌, ◌≤◌, List, []}
use Rattle.desk_lines.specs.Told.{Stands, lines_of}
use Rattle.desk_lines.specs.Lines.{ended_lines}
use Rattle.desk_lines.specs.Reading.{kept}
use Rattle.desk_lines.specs.Streams.{Gives}
use Rattle.desk_lines.proofs.stream.answer_lines.Given as goal

-- the lines of the text that the reader has given are answered, the front of what follows is held, and no call has failed
abbrev pub invariant-loop-turn : goal.invariant-loop-turn
invariant-loop-turn g l =
    let source = g.R.Source in
    (text : List ℕ) × record {
      gives : Gives source l.fn.reader l.reader text;
      held : l.held.bytes.items ≡ kept 8194 text;
      stands : Stands g.W.Sink g.T.Teller l.fn.writer l.fn.teller (ended_lines text) l.teller l.told l.writer;
      empty : l.told.outbox.bytes.items ≡ [];
      reads : source.failures l.reader ≡ source.failures l.fn.reader;
      calls : source.calls l.reader ≡ source.calls l.fn.reader + l.turn;
      ends : source.ends l.reader ≡ source.ends l.fn.reader;
      count : lines_of l.told ≤ 73730 * l.turn;
    }
