use Rattle.std.proofs.Common.{◌≡◌}
use Rattle.riichi_desk.proofs.seats.drawn.Given as goal

-- it stays the drawing of the plan
abbrev pub invariant-loop-round : goal.invariant-loop-round
invariant-loop-round g l = l.drawing.plan ≡ l.initial.drawing.plan
