use Rattle.std.proofs.Common.{◌≤◌, ◌+◌, ◌*◌, length}
use Rattle.desk_study.specs.SafeObjects.{has_waits, waited_json}
use Rattle.desk_json.proofs.Chosen.{IsWrittenTo}
use Rattle.desk_study.specs.declared.safe_objects.TheConstants.{MOST_WAIT}
use Rattle.desk_study.proofs.safe_objects.push_every_wait.Given as goal

abbrev pub invariant-loop-number : goal.invariant-loop-number
invariant-loop-number l = record {
  in_range : l.number ≤ 34;
  written : IsWrittenTo (waited_json l.asked) (has_waits l.asked) l.number l.initial.text.bytes l.text.bytes l.later;
  few : length l.text.bytes ≤ length l.initial.text.bytes + MOST_WAIT * l.number;
}
