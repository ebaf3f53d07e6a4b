use Rattle.std.proofs.Common.{◌+◌, ◌*◌, ◌≤◌, length, take}
use Rattle.desk_study.specs.Objects.{call_json}
use Rattle.desk_study.specs.declared.objects.TheConstants.{MOST_CALL}
use Rattle.desk_study.proofs.ListedLemmas.{IsListed}
use Rattle.desk_study.proofs.members.put_each.Given as goal

-- those so far are put
abbrev pub invariant-loop-call : goal.invariant-loop-call
invariant-loop-call l = record {
  listed : IsListed call_json (take l.call-index l.calls) l.initial.outbox.bytes.items l.outbox.bytes.items l.later;
  few : length l.outbox.bytes.items ≤ length l.initial.outbox.bytes.items + l.call-index * MOST_CALL;
}
