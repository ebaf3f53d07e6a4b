use Rattle.std.proofs.Common.{◌≡◌, drop, max}
use Rattle.riichi_chances.specs.Draws.{greatest}
use Rattle.riichi_worth.specs.Rows.{placed_points}
use Rattle.riichi_worth.proofs.counting.greatest_at.Given as goal

-- the greatest so far, and that of the places that are left
abbrev pub invariant-loop-place : goal.invariant-loop-place
invariant-loop-place l = record {
  so_far : max l.points (greatest (placed_points l.earlier l.left) (drop l.place-index l.places)) ≡ max (greatest (placed_points l.earlier l.left) l.places) 0;
}
