use Rattle.std.proofs.Common.{◌≡◌, List, ℕ, ◌++◌, length}
use Rattle.desk_lines.specs.Streams.{WritesAll}
use Rattle.desk_lines.proofs.outbox.write_all.Given as goal

-- the text is what was written so far, and the rest
abbrev pub invariant-loop-rest : goal.invariant-loop-rest
invariant-loop-rest g l =
    let sink = g.W.Sink in
    (front : List ℕ) × (l.fn.text ≡ front ++ l.rest) × WritesAll sink l.fn.writer l.writer front

abbrev pub decreases-loop-rest : goal.decreases-loop-rest
decreases-loop-rest g l = length l.rest
