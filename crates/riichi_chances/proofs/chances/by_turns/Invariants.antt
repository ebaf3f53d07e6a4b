use Rattle.std.proofs.Common.{◌≡◌, ℕ, ◌<◌, length}
use Rattle.std.specs.Prelude.{slice_index, slice_index_or}
use Rattle.riichi_hand.specs.HandParts.{ShapeParts}
use Rattle.riichi_chances.specs.Graph.{IsGraph, placed_hand}
use Rattle.riichi_chances.specs.declared.chances.Chances.{Chances}
use Rattle.riichi_chances.specs.Chances.{AreLong}
use Rattle.riichi_chances.proofs.ChancesLemmas.{CountedBelow}
use Rattle.riichi_chances.proofs.chances.by_turns.Given as goal

-- the chances so far
abbrev pub invariant-loop-count : goal.invariant-loop-count
invariant-loop-count l = record {
  rows : length l.rows ≡ length l.initial.rows;
  each : length l.each ≡ length l.places;
  long : (at : ℕ) (chances : Chances) → at < length l.places → AreLong (slice_index_or l.each at chances);
  told : (root : ShapeParts) → IsGraph root l.graph → (at : ℕ) (chances : Chances) → at < length l.places → CountedBelow (placed_hand root l.graph.hands (slice_index l.places at)) l.unseen l.count (slice_index_or l.each at chances);
}
