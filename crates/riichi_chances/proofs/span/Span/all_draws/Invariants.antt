use Rattle.std.proofs.Common.{◌≡◌, ℕ, ◌≤◌, get_or, length}
use Rattle.riichi_chances.specs.Numbers.{unseen_at}
use Rattle.riichi_chances.specs.Draws.{all_draws}
use Rattle.riichi_chances.proofs.span.Span.all_draws.Given as goal

abbrev pub invariant-loop-left : goal.invariant-loop-left
invariant-loop-left l = record {
  long : length l.all ≡ 19;
  each : (k : ℕ) → k ≤ l.left → get_or l.all k 0 ≡ all_draws (unseen_at l.self k) k;
}
