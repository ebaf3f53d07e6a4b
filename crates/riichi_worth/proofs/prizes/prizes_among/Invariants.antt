use Rattle.std.proofs.Common.{◌≡◌, ◌+◌, ◌*◌, ◌≤◌}
use Rattle.riichi_deeper.proofs.DeeperLemmas.{rest_of}
use Rattle.riichi_worth.specs.CountedPoints.{prize_times, prizes_of}
use Rattle.riichi_worth.proofs.prizes.prizes_among.Given as goal

-- the sum so far, and that of the kinds that are left
abbrev pub invariant-loop-number : goal.invariant-loop-number
invariant-loop-number l = record {
  so_far : l.sum + rest_of (prize_times l.stakes l.hand) l.copies l.number ≡ prizes_of l.stakes l.hand;
  few : l.sum ≤ 20000000 * l.number;
}
