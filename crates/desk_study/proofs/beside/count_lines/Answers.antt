use Rattle.std.proofs.Common.{◌≡◌, ℕ, List, length, ap, arith}
use Rattle.desk_lines.specs.Lines.{lines}
use Rattle.desk_study.proofs.PartLemmas.{lines_first}
use Rattle.desk_study.proofs.beside.count_lines.Goals as goal

pub loop-line-preserved : goal.loop-line-preserved
loop-line-preserved c =
    let so_far = c.loop-line.invariant in
    let first = c.in-Some.ensures in
    let next = ap (λ (ls : List (List ℕ)). length ls) (lines_first c.loop-line.rest.now _ c.in-Some.after.now first) in
    record {
      counted = omega (arith, so_far.counted, next);
      few = omega (arith, so_far.few, first.shorter);
    }

pub returns-clause-lines : goal.returns-clause-lines
returns-clause-lines c =
    let none : length (lines c.loop-line.rest.now) ≡ 0 = ap (λ (text : List ℕ). length (lines text)) c.in_default.ensures in
    omega (arith, c.loop-line.invariant.counted, none)
