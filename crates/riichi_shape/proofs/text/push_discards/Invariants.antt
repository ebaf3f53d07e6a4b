use Rattle.std.proofs.Common.{◌≡◌, ◌+◌, ◌*◌, ◌≤◌, ◌++◌, length, take}
use Rattle.std.specs.List.{flat_map}
use Rattle.riichi_shape.specs.declared.text.TheConstants.{MOST_DISCARD}
use Rattle.riichi_shape.specs.Text.{discard_text}
use Rattle.riichi_shape.proofs.text.push_discards.Given as goal

abbrev pub invariant-loop-place : goal.invariant-loop-place
invariant-loop-place l = record {
  bytes : l.text.bytes ≡ l.initial.text.bytes ++ flat_map discard_text (take l.place l.discards);
  few : length l.text.bytes ≤ length l.initial.text.bytes + MOST_DISCARD * l.place;
}
