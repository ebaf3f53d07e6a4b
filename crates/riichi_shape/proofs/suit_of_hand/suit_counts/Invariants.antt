use Rattle.std.proofs.Common.{◌≡◌, ℕ, ◌+◌, ◌<◌, get_or, length}
use Rattle.riichi_tiles.specs.Kinds.{first_of}
use Rattle.riichi_shape.proofs.suit_of_hand.suit_counts.Given as goal

abbrev pub invariant-loop-rank : goal.invariant-loop-rank
invariant-loop-rank l = record {
  long : length l.ranks ≡ 9;
  copied : (r : ℕ) → r < l.rank → get_or l.ranks r 0 ≡ get_or l.counts (first_of l.suit + r) 0;
}
