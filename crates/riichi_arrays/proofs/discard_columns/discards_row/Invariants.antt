use Rattle.std.proofs.Common.{◌≡◌, ◌≤◌, length, drop}
use Rattle.riichi_arrays.specs.Columns.{discards_row}
use Rattle.riichi_arrays.proofs.discard_columns.discards_row.Given as goal

-- the discards from a place on
abbrev pub invariant-loop-place : goal.invariant-loop-place
invariant-loop-place l = record {
  told : l.told ≡ discards_row l.shanten (drop l.place l.discards);
  within : l.place ≤ length l.discards;
}

abbrev pub decreases-loop-place : goal.decreases-loop-place
decreases-loop-place l = l.place
