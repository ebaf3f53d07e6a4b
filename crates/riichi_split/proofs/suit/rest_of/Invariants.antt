use Rattle.std.proofs.Common.{◌≡◌, ◌≤◌, ◌*◌, get_or}
use Rattle.std.specs.List.{range_with_len}
use Rattle.std.specs.Prelude.{sum_by}
use Rattle.riichi_tiles.specs.Kinds.{first_of}
use Rattle.riichi_split.proofs.suit.rest_of.Given as goal

abbrev pub invariant-loop-rank : goal.invariant-loop-rank
invariant-loop-rank l = (l.total ≡ sum_by (λ k. get_or l.counts k 0) (range_with_len (first_of l.suit) l.rank)) × (l.total ≤ 256 * l.rank)
