use Rattle.std.proofs.Common.{◌≡◌, ◌≤◌, ◌+◌, length, drop}
use Rattle.riichi_hints.specs.Crowd as spec
use Rattle.riichi_hints.proofs.tiles.copies_in.Given as goal

-- the copies in what was read, from the end on
abbrev pub invariant-loop-at : goal.invariant-loop-at
invariant-loop-at l = record {
  within : l.at ≤ length l.line;
  few : l.count + l.at ≤ length l.line;
  suit : l.suit ≡ spec.letter_in (drop l.at l.line);
  count : l.count ≡ spec.copies_on_line l.tile.digit l.tile.suit (drop l.at l.line);
}

abbrev pub decreases-loop-at : goal.decreases-loop-at
decreases-loop-at l = l.at
