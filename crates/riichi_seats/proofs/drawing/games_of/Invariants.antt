-- The games of the sessions so far.
use Rattle.riichi_seats.specs.Seatings as spec
use Rattle.riichi_seats.proofs.drawing.games_of.Given as goal

abbrev pub invariant-loop-session : goal.invariant-loop-session
invariant-loop-session l = spec.IsSeating l.plan.tables l.session l.games.items
