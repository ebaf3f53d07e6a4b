use Rattle.std.proofs.Common.{◌≡◌, ℕ, ◌<◌, ◌≤◌, length}
use Rattle.std.specs.Prelude.{slice_index, slice_index_or}
use Rattle.riichi_chances.specs.Chances.{IsTold}
use Rattle.riichi_chances.specs.declared.chances.Chances.{Chances}
use Rattle.riichi_chances.specs.Rows.{Rows}
use Rattle.riichi_chances.proofs.chances.tell_each.Given as goal

-- the first are told, and the others stay
abbrev pub invariant-loop-at : goal.invariant-loop-at
invariant-loop-at l = record {
  each : length l.each ≡ length l.initial.each;
  told : (k : ℕ) (row : Rows) (chances : Chances) → k < l.at → IsTold l.turns (slice_index_or l.rows (slice_index l.places k) row) l.all (slice_index_or l.initial.each k chances) (slice_index_or l.each k chances);
  later : (k : ℕ) (chances : Chances) → l.at ≤ k → slice_index_or l.each k chances ≡ slice_index_or l.initial.each k chances;
}
