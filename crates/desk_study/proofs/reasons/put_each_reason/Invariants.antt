use Rattle.std.proofs.Common.{◌≡◌, ◌+◌, ◌*◌, ◌≤◌, ◌++◌, length, take}
use Rattle.std.specs.List.{flat_map}
use Rattle.riichi_study.specs.Reasons.{call_reason}
use Rattle.riichi_study.specs.declared.reasons.TheConstants.{MOST_CALL_REASON}
use Rattle.desk_study.proofs.reasons.put_each_reason.Given as goal

-- the pieces so far are put
abbrev pub invariant-loop-call : goal.invariant-loop-call
invariant-loop-call l = record {
  bytes : l.outbox.bytes.items ≡ l.initial.outbox.bytes.items ++ flat_map call_reason (take l.call-index l.calls);
  few : length l.outbox.bytes.items ≤ length l.initial.outbox.bytes.items + l.call-index * MOST_CALL_REASON;
}
