use Rattle.std.proofs.Common.{get_or, ◌++◌, ◌+◌, ◌-◌, ◌≡◌, arith, sym, ap, ◌∙◌}
use Rattle.riichi_split.specs.Cuts.{from_pairs}
use Rattle.riichi_split.proofs.SplitSteps.{from_pairs_step, no_pair}
use Rattle.riichi_split.proofs.Thirds.{from_pairs_passed}
use Rattle.riichi_split.proofs.splits.next_fitting.Goals as goal

pub loop-kinds-preserved : goal.loop-kinds-preserved
loop-kinds-preserved c =
    let counts = c.args.counts.now in
    let first = c.args.first in
    let kinds = c.loop-kinds.kinds in
    let left = c.saturating_sub.result in
    let fits = c.loop-kinds.invariant.1 (omega arith) in
    let same : first + (kinds - 1) ≡ first + kinds - 1 = omega arith in (
      omega arith,
      λ some. omega (arith, fits, some),
      λ wanted choices.
          let none = no_pair counts wanted (first + (kinds - 1)) choices (omega (arith, ap (λ n. get_or counts n 0) same)) in
          sym (from_pairs_passed counts wanted choices first left (kinds - 1) (omega arith) (omega arith) (omega arith) (λ kind a b e. omega (arith, fits, e, c.requires.third)))
          ∙ sym (ap (λ z. z ++ from_pairs counts wanted choices first (kinds - 1)) none)
          ∙ sym (from_pairs_step counts wanted choices first kinds (omega arith)) ∙ c.loop-kinds.invariant.2 wanted choices,
    )
