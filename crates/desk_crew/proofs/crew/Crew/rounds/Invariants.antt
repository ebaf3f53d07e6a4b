use Rattle.std.proofs.Common.{◌≡◌, ℕ, ◌+◌, List}
use Rattle.desk_crew.specs.Pieces.{answers_in_rooms}
use Rattle.desk_crew.specs.Crew.{IsAhead}
use Rattle.desk_crew.specs.Reading.{GoesOn}
use Rattle.desk_crew.proofs.crew.Crew.rounds.Given as goal

-- the lines of what the reader gave before the text at hand are answered
abbrev pub invariant-loop-stop : goal.invariant-loop-stop
invariant-loop-stop g l =
    let source = g.R.Source in
    (text : List ℕ) × record {
      ahead : IsAhead g.A.Responder.may_tell source g.W.Sink l.fn.reader l.fn.writer l.given text l.self.text.items l.self.standing (answers_in_rooms l.self.waiting) l.reader l.writer;
      goes_on : GoesOn source l.fn.reader l.reader;
      calls : source.calls l.reader + l.self.ahead.left ≡ source.calls l.fn.reader + 4294967295;
    }

abbrev pub decreases-loop-stop : goal.decreases-loop-stop
decreases-loop-stop g l = l.self.ahead.left
