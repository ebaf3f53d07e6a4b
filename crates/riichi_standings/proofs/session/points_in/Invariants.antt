use Rattle.std.proofs.Common.{◌≡◌, drop}
use Rattle.std.specs.List.{find}
use Rattle.riichi_standings.specs.Sessions.{is_in}
use Rattle.riichi_standings.proofs.session.points_in.Given as goal

-- what is found is found behind
abbrev pub invariant-loop-seat : goal.invariant-loop-seat
invariant-loop-seat l = find (is_in l.session) l.own ≡ find (is_in l.session) (drop l.seat-index l.own)
