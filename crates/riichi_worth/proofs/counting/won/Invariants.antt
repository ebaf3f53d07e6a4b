use Rattle.std.proofs.Common.{◌≡◌, ℕ, ◌*◌, ◌<◌, get_or, length}
use Rattle.riichi_worth.proofs.counting.won.Given as goal

abbrev pub invariant-loop-left : goal.invariant-loop-left
invariant-loop-left l = record {
  long : length l.begun ≡ 19;
  each : (k : ℕ) → k < l.left → get_or l.begun k 0 ≡ l.prizes * get_or l.all k 0;
}
