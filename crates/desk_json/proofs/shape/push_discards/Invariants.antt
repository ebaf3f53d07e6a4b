use Rattle.std.proofs.Common.{◌≡◌, ◌≤◌, ◌+◌, ◌*◌, ◌++◌, length, map, take}
use Rattle.desk_json.specs.declared.shape.TheConstants.{MOST_DISCARD}
use Rattle.desk_json.specs.Parts.{listed, discard_json}
use Rattle.desk_json.proofs.shape.push_discards.Given as goal

abbrev pub invariant-loop-place : goal.invariant-loop-place
invariant-loop-place l = record {
  bytes : l.text.bytes ≡ l.initial.text.bytes ++ listed (map discard_json (take l.place l.discards));
  few : length l.text.bytes ≤ length l.initial.text.bytes + MOST_DISCARD * l.place;
}
