use Rattle.std.proofs.Common.{◌≡◌, ℕ, ◌+◌, ◌≤◌, List, ◌++◌, length}
use Rattle.desk_lines.specs.Lines.{ended_lines}
use Rattle.desk_lines.specs.Records.{AreTold}
use Rattle.desk_lines.specs.Slips.{tally_of}
use Rattle.desk_lines.specs.Telling.{text_of, count_of}
use Rattle.desk_lines.proofs.piece.answer_piece.Given as goal

-- the lines before the rest are answered, and counted
abbrev pub invariant-loop-line : goal.invariant-loop-line
invariant-loop-line g l = (done told : List (List ℕ)) × record {
  lines : ended_lines l.text ≡ done ++ ended_lines l.rest;
  are_told : AreTold g.A.Responder.may_tell l.rules done told;
  answers : l.answers.items ≡ l.fn.answers.items ++ text_of told;
  tally : l.tally ≡ tally_of l.rules done;
  count : count_of l.tally.counts + length l.rest ≤ length l.text;
  lines_read : l.tally.lines + length l.rest ≤ length l.text;
}

abbrev pub decreases-loop-line : goal.decreases-loop-line
decreases-loop-line g l = length l.rest
