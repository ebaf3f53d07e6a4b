use Rattle.std.proofs.Common.{◌≤◌, ◌+◌, ◌*◌, length}
use Rattle.riichi_tiles.specs.HeldKinds.{is_held}
use Rattle.desk_json.specs.Parts.{quoted_kind}
use Rattle.desk_json.proofs.Chosen.{IsWrittenTo}
use Rattle.desk_study.specs.declared.safe_objects.TheConstants.{MOST_QUOTED}
use Rattle.desk_study.proofs.safe_objects.push_set.Given as goal

abbrev pub invariant-loop-number : goal.invariant-loop-number
invariant-loop-number l = record {
  in_range : l.number ≤ 34;
  written : IsWrittenTo quoted_kind (is_held l.kinds) l.number l.initial.text.bytes l.text.bytes l.later;
  few : length l.text.bytes ≤ length l.initial.text.bytes + MOST_QUOTED * l.number;
}
