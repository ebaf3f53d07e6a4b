use Rattle.std.proofs.Common.{◌≡◌, ℕ, ◌<◌, get_or, length}
use Rattle.std.specs.Int.{from_bool}
use Rattle.riichi_shape.specs.Special.{special_lacks}
use Rattle.riichi_shape.proofs.special.SpecialLacked.kinds.Given as goal

abbrev pub invariant-loop-kind : goal.invariant-loop-kind
invariant-loop-kind l = record {
  long : length l.lacked ≡ 34;
  done : (k : ℕ) → k < l.kind → get_or l.lacked k 0 ≡ from_bool (special_lacks l.self k (get_or l.held k 0));
}
