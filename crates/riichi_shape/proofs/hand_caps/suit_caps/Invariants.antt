use Rattle.std.proofs.Common.{◌≡◌, ℕ, ◌+◌, ◌-◌, ◌<◌, ◌≤◌, get_or, length}
use Rattle.riichi_tiles.specs.Kinds.{first_of}
use Rattle.riichi_shape.proofs.hand_caps.suit_caps.Given as goal

abbrev pub invariant-loop-rank : goal.invariant-loop-rank
invariant-loop-rank l = record {
  long : length l.left ≡ 9;
  told : (r : ℕ) → r < l.rank → get_or l.left r 0 ≡ 4 - get_or l.melded (first_of l.suit + r) 0;
  none_yet : (r : ℕ) → l.rank ≤ r → get_or l.left r 0 ≡ 0;
}
