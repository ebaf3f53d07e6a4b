use Rattle.riichi_worth.proofs.NumberLemmas.{IsDivided}
use Rattle.riichi_worth.proofs.points.Points.divided.Given as goal

-- how often so far, and what is left
abbrev pub invariant-loop-step : goal.invariant-loop-step
invariant-loop-step l = IsDivided l.whole l.initial.rest l.step l.times l.rest
