use Rattle.std.proofs.Common.{◌≡◌, take}
use Rattle.riichi_standings.specs.Sessions.{last_session}
use Rattle.riichi_standings.proofs.session.last_session.Given as goal

abbrev pub invariant-loop-seat : goal.invariant-loop-seat
invariant-loop-seat l = l.last ≡ last_session (take l.seat-index l.results)
