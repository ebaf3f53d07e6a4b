use Rattle.std.proofs.Common.{◌≡◌, ℕ, ◌<◌, get_or, length}
use Rattle.riichi_shape.specs.KindBits.{copies_at}
use Rattle.riichi_shape.proofs.live_copies.copies_among.Given as goal

abbrev pub invariant-loop-kind : goal.invariant-loop-kind
invariant-loop-kind l = record {
  long : length l.taken ≡ 34;
  done : (k : ℕ) → k < l.kind → get_or l.taken k 0 ≡ copies_at l.copies l.kinds k;
}
