use Rattle.std.proofs.Common.{◌+◌, ◌*◌, ◌≤◌, length, take}
use Rattle.desk_study.specs.Objects.{prospect_json}
use Rattle.desk_study.specs.declared.objects.TheConstants.{MOST_PROSPECT}
use Rattle.desk_study.proofs.ListedLemmas.{IsListed}
use Rattle.desk_study.proofs.members.put_prospects.Given as goal

-- those so far are put
abbrev pub invariant-loop-prospect : goal.invariant-loop-prospect
invariant-loop-prospect l = record {
  listed : IsListed prospect_json (take l.prospect-index l.list) l.initial.outbox.bytes.items l.outbox.bytes.items l.later;
  few : length l.outbox.bytes.items ≤ length l.initial.outbox.bytes.items + l.prospect-index * MOST_PROSPECT;
}
