use Rattle.riichi_win_arrays.specs.Wins.{AreScored}
use Rattle.riichi_win_arrays.proofs.told.wins.Given as goal

abbrev pub invariant-loop-place : goal.invariant-loop-place
invariant-loop-place l = AreScored l.rules l.place l.rows l.fn.scores l.scores
