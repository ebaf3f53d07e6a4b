use Rattle.std.proofs.Common.{◌≤◌, ◌+◌, ◌*◌, length}
use Rattle.riichi_tiles.specs.HeldKinds.{is_held}
use Rattle.desk_json.specs.declared.waits.TheConstants.{MOST_ONE}
use Rattle.desk_json.specs.Parts.{quoted_kind}
use Rattle.desk_json.proofs.Chosen.{IsWrittenTo}
use Rattle.desk_json.proofs.waits.push_kinds.Given as goal

abbrev pub invariant-loop-number : goal.invariant-loop-number
invariant-loop-number l = record {
  in_range : l.number ≤ 34;
  written : IsWrittenTo quoted_kind (is_held l.kinds) l.number l.initial.text.bytes l.text.bytes l.later;
  few : length l.text.bytes ≤ length l.initial.text.bytes + MOST_ONE * l.number;
}
