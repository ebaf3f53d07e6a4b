use Rattle.std.proofs.Common.{◌≡◌, ℕ, ◌+◌, ◌-◌, ◌<◌, get_or, length}
use Rattle.riichi_shape.proofs.acceptance.live_copies.Given as goal

abbrev pub invariant-loop-kind : goal.invariant-loop-kind
invariant-loop-kind l = record {
  long : length l.copies ≡ 34;
  done : (k : ℕ) → k < l.kind → get_or l.copies k 0 ≡ 4 - (get_or l.held k 0 + get_or l.melded k 0 + get_or l.elsewhere k 0);
}
