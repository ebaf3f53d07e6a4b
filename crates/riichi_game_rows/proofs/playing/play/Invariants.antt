use Rattle.std.proofs.Common.{◌≡◌, ℕ, ◌<◌, None}
use Rattle.riichi_game_rows.specs.Playing.{fault_behind, progress_at}
use Rattle.riichi_game_rows.proofs.playing.play.Given as goal

abbrev pub invariant-loop-accepted : goal.invariant-loop-accepted
invariant-loop-accepted l = record {
  reached : l.reached ≡ progress_at l.progress l.rules l.rows l.accepted;
  none_before : (number : ℕ) → number < l.accepted → fault_behind l.progress l.rules l.rows number ≡ None;
}
