use Rattle.std.proofs.Common.{◌≡◌, take}
use Rattle.riichi_standings.specs.Tallies.{best_points_of}
use Rattle.riichi_standings.proofs.tally.best_of.Given as goal

abbrev pub invariant-loop-seat : goal.invariant-loop-seat
invariant-loop-seat l = l.best ≡ best_points_of l.player (take l.seat-index l.results)
