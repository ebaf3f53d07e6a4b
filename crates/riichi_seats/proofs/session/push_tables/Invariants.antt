-- The tables so far, and those of the rest, are those of all.
use Rattle.std.proofs.Common.{◌≡◌, ◌++◌, length}
use Rattle.riichi_seats.specs.Seatings as spec
use Rattle.riichi_seats.proofs.session.push_tables.Given as goal

abbrev pub invariant-loop-rest : goal.invariant-loop-rest
invariant-loop-rest l = l.games.items ++ spec.tables_of l.rest ≡ l.initial.games.items ++ spec.tables_of l.initial.rest

abbrev pub decreases-loop-rest : goal.decreases-loop-rest
decreases-loop-rest l = length l.rest
