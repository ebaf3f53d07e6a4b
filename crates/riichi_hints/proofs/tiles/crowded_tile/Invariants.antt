use Rattle.std.proofs.Common.{ℕ, ◌<◌, get_or}
use Rattle.riichi_hints.specs.Crowd.{HasNoneCrowded}
use Rattle.riichi_hints.proofs.tiles.crowded_tile.Given as goal

-- none of the suits so far
abbrev pub invariant-loop-suit : goal.invariant-loop-suit
invariant-loop-suit l = (place : ℕ) → place < l.suit-index → HasNoneCrowded (get_or l.suit-items place 0) l.line
