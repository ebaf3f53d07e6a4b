use Rattle.std.proofs.Common.{◌≡◌, ℕ, ◌+◌, ◌≤◌, List, ◌++◌}
use Rattle.desk_lines.specs.Streams.{Gives}
use Rattle.desk_crew.specs.Reading.{GoesOn}
use Rattle.desk_crew.proofs.reading.read_round.Given as goal

-- what the reader gave stands behind the text
abbrev pub invariant-loop-left : goal.invariant-loop-left
invariant-loop-left g l =
    let source = g.R.Source in
    (bytes : List ℕ) × record {
      gives : Gives source l.fn.reader l.reader bytes;
      text : l.text.items ≡ l.fn.text.items ++ bytes;
      goes_on : GoesOn source l.fn.reader l.reader;
      calls : source.calls l.reader + l.left ≡ source.calls l.fn.reader + l.fn.left;
      fewer : l.left ≤ l.fn.left;
    }

abbrev pub decreases-loop-left : goal.decreases-loop-left
decreases-loop-left g l = l.left
