use Rattle.std.proofs.Common.{◌≡◌, ℕ, ◌+◌, ◌-◌, ◌*◌, ◌<◌, ◌≤◌, get_or, length}
use Rattle.riichi_chances.specs.Numbers.{unseen_at}
use Rattle.riichi_worth.specs.Rows.{most_points}
use Rattle.riichi_worth.proofs.counting.follow.Given as goal

abbrev pub invariant-loop-left : goal.invariant-loop-left
invariant-loop-left l = record {
  long : length l.points ≡ 19;
  none : get_or l.points 0 0 ≡ 0;
  more : (k : ℕ) → k < l.left → get_or l.points (k + 1) 0 ≡ (unseen_at l.span (k + 1) - l.live) * get_or l.points k 0 + get_or l.begun k 0;
  few : (k : ℕ) → k ≤ l.left → get_or l.points k 0 ≤ most_points k;
}
