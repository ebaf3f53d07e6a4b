use Rattle.std.proofs.Common.{ℕ, List, length}
use Rattle.desk_games.proofs.FillLemmas.{AnsweredUpTo}
use Rattle.desk_games.proofs.filling.pass.Given as goal

-- the text up to the rest is answered
abbrev pub invariant-loop-line : goal.invariant-loop-line
invariant-loop-line l = (answers : List (List ℕ)) × AnsweredUpTo l.fn.games l.games l.text l.rest answers

abbrev pub decreases-loop-line : goal.decreases-loop-line
decreases-loop-line l = length l.rest
