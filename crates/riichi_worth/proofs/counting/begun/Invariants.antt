use Rattle.std.proofs.Common.{◌≡◌, ℕ, ◌<◌, get_or, length}
use Rattle.riichi_worth.specs.Rows.{begun_points}
use Rattle.riichi_worth.proofs.counting.begun.Given as goal

abbrev pub invariant-loop-left : goal.invariant-loop-left
invariant-loop-left l = record {
  long : length l.begun ≡ 19;
  each : (k : ℕ) → k < l.left → get_or l.begun k 0 ≡ begun_points l.earlier k l.draws;
}
