use Rattle.std.proofs.Common.{◌≡◌, ◌+◌, ◌*◌, ◌≤◌, ◌++◌, length, take}
use Rattle.std.specs.List.{flat_map}
use Rattle.riichi_study.specs.Texts.{call_text}
use Rattle.desk_study.specs.declared.plain.TheConstants.{MOST_CALL}
use Rattle.desk_study.proofs.plain.put_each.Given as goal

-- the pieces so far are put
abbrev pub invariant-loop-call : goal.invariant-loop-call
invariant-loop-call l = record {
  bytes : l.outbox.bytes.items ≡ l.initial.outbox.bytes.items ++ flat_map (call_text l.shanten) (take l.call-index l.calls);
  few : length l.outbox.bytes.items ≤ length l.initial.outbox.bytes.items + l.call-index * MOST_CALL;
}
