use Rattle.std.proofs.Common.{◌≡◌, ◌+◌, ◌≤◌, length}
use Rattle.desk_lines.specs.Lines.{lines}
use Rattle.desk_study.proofs.beside.count_lines.Given as goal

-- the lines before the rest are counted
abbrev pub invariant-loop-line : goal.invariant-loop-line
invariant-loop-line l = record {
  counted : l.count + length (lines l.rest) ≡ length (lines l.text);
  few : l.count + length l.rest ≤ length l.text;
}

abbrev pub decreases-loop-line : goal.decreases-loop-line
decreases-loop-line l = length l.rest
