use Rattle.std.proofs.Common.{◌≡◌, ◌*◌, take}
use Rattle.std.specs.Prelude.{pos, neg_ℤ, ◌≤ℤ◌}
use Rattle.riichi_standings.specs.Tallies.{total_points_of}
use Rattle.riichi_standings.proofs.tally.total_of.Given as goal

-- the sum so far, and how far from 0 it may be
abbrev pub invariant-loop-seat : goal.invariant-loop-seat
invariant-loop-seat l = record {
  sum : l.total ≡ total_points_of l.player (take l.seat-index l.results);
  least : neg_ℤ (pos (2147483648 * l.seat-index)) ≤ℤ l.total;
  most : l.total ≤ℤ pos (2147483648 * l.seat-index);
}
