use Rattle.std.proofs.Common.{◌≡◌, ℕ, ◌+◌, ◌≤◌, List, ◌++◌, length}
use Rattle.desk_lines.specs.Told.{Stands, lines_of}
use Rattle.desk_lines.specs.Lines.{cut_of, ended_lines}
use Rattle.desk_lines.specs.Reading.{AreToldAs}
use Rattle.desk_lines.proofs.told.Told.add_lines.Given as goal

-- the lines before the rest are answered
abbrev pub invariant-loop-line : goal.invariant-loop-line
invariant-loop-line g l = (done : List (List ℕ)) × record {
  lines : ended_lines l.text ≡ done ++ ended_lines l.rest;
  rest : (cut_of l.text).rest ≡ (cut_of l.rest).rest;
  stands : (start : g.row.W.Denot) (first : g.row.T.Denot) (lines next : List (List ℕ)) → AreToldAs g.T.Teller.most done next → Stands g.W.Sink g.T.Teller start first lines l.fn.teller l.fn.self l.fn.writer
      → Stands g.W.Sink g.T.Teller start first (lines ++ next) l.teller l.self l.writer;
  count : lines_of l.self + length l.rest ≤ lines_of l.fn.self + length l.text;
}

abbrev pub decreases-loop-line : goal.decreases-loop-line
decreases-loop-line g l = length l.rest
