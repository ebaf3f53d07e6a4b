use Rattle.std.proofs.Common.{◌≡◌, take}
use Rattle.std.specs.Prelude.{filter}
use Rattle.riichi_standings.specs.Tallies.{is_of}
use Rattle.riichi_standings.proofs.session.results_of.Given as goal

abbrev pub invariant-loop-seat : goal.invariant-loop-seat
invariant-loop-seat l = l.own.items ≡ filter (is_of l.player) (take l.seat-index l.results)
