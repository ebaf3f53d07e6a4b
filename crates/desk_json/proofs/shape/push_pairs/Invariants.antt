use Rattle.std.proofs.Common.{◌≤◌, ◌+◌, ◌*◌, length}
use Rattle.std.specs.Prelude.{slice_index, nat_lt}
use Rattle.desk_json.specs.declared.shape.TheConstants.{MOST_PAIR}
use Rattle.desk_json.specs.Parts.{live_json}
use Rattle.desk_json.proofs.Chosen.{IsWrittenTo}
use Rattle.desk_json.proofs.shape.push_pairs.Given as goal

abbrev pub invariant-loop-number : goal.invariant-loop-number
invariant-loop-number l = record {
  in_range : l.number ≤ 34;
  written : IsWrittenTo (λ kind. live_json (kind, slice_index l.copies kind)) (λ kind. nat_lt 0 (slice_index l.copies kind)) l.number l.initial.text.bytes l.text.bytes l.later;
  few : length l.text.bytes ≤ length l.initial.text.bytes + MOST_PAIR * l.number;
}
