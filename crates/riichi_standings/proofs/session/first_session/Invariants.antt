use Rattle.std.proofs.Common.{◌≡◌, take}
use Rattle.riichi_standings.specs.Sessions.{first_session}
use Rattle.riichi_standings.proofs.session.first_session.Given as goal

abbrev pub invariant-loop-seat : goal.invariant-loop-seat
invariant-loop-seat l = l.first ≡ first_session (take l.seat-index l.results)
