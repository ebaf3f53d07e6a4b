use Rattle.std.proofs.Common.{◌≡◌, map}
use Rattle.std.specs.Prelude.{string_bytes}
use Rattle.riichi_standings.proofs.StandingLemmas.{each_up_to}
use Rattle.riichi_standings.proofs.standing.each_standing.Given as goal

abbrev pub invariant-loop-player : goal.invariant-loop-player
invariant-loop-player l = l.list.items ≡ each_up_to l.ties (map string_bytes l.names) l.tallies l.player
