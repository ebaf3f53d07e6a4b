use Rattle.std.proofs.Common.{◌≡◌, ◌+◌, ◌-◌, ◌*◌, ◌≤◌}
use Rattle.riichi_rows.proofs.Spread.{spread}
use Rattle.riichi_shape.specs.Accepted.{live_of}
use Rattle.riichi_chances.specs.Draws.{unseen_of}
use Rattle.riichi_chances.proofs.unseen.unseen_tiles.Given as goal

-- those so far, and those of the kinds that are left
abbrev pub invariant-loop-kind : goal.invariant-loop-kind
invariant-loop-kind l = record {
  so_far : l.unseen + spread (live_of l.asked.tiles l.asked.melds l.asked.seen) l.kind (34 - l.kind) ≡ unseen_of l.asked;
  few : l.unseen ≤ 4 * l.kind;
}
