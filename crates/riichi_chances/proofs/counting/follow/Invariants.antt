use Rattle.std.proofs.Common.{◌≡◌, ℕ, ◌+◌, ◌-◌, ◌*◌, ◌<◌, ◌≤◌, get_or, length}
use Rattle.riichi_chances.specs.Bests.{begun_by}
use Rattle.riichi_chances.specs.Numbers.{most_draws, unseen_at}
use Rattle.riichi_chances.proofs.counting.follow.Given as goal

abbrev pub invariant-loop-left : goal.invariant-loop-left
invariant-loop-left l = record {
  long : length l.row ≡ 19;
  none : get_or l.row 0 0 ≡ 0;
  more : (k : ℕ) → k < l.left → get_or l.row (k + 1) 0 ≡ (unseen_at l.span (k + 1) - l.live) * get_or l.row k 0 + begun_by l.column l.earlier l.draws k (get_or l.row k 0);
  few : (k : ℕ) → k ≤ l.left → get_or l.row k 0 ≤ most_draws k;
}
