use Rattle.std.proofs.Common.{ℕ, ◌<◌, ◌≤◌}
use Rattle.riichi_hints.specs.Crowd.{copies_on_line}
use Rattle.riichi_hints.proofs.tiles.crowded_of.Given as goal

-- none of the digits so far
abbrev pub invariant-loop-digit : goal.invariant-loop-digit
invariant-loop-digit l = (digit : ℕ) → 49 ≤ digit → digit < l.digit → copies_on_line digit l.suit l.line ≤ 4
