use Rattle.std.proofs.Common.{◌≡◌}
use Rattle.riichi_standings.specs.Standings.{tallies_of}
use Rattle.riichi_standings.proofs.standing.tallies_of.Given as goal

abbrev pub invariant-loop-player : goal.invariant-loop-player
invariant-loop-player l = l.tallies.items ≡ tallies_of l.player l.results
