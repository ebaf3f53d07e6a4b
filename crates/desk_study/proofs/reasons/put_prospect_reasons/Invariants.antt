use Rattle.std.proofs.Common.{◌≡◌, ◌+◌, ◌*◌, ◌≤◌, ◌++◌, length, take}
use Rattle.std.specs.List.{flat_map}
use Rattle.desk_study.specs.Answers.{kept_reason}
use Rattle.riichi_study.specs.declared.reasons.TheConstants.{MOST_REASON}
use Rattle.desk_study.proofs.reasons.put_prospect_reasons.Given as goal

-- the pieces so far are put
abbrev pub invariant-loop-prospect : goal.invariant-loop-prospect
invariant-loop-prospect l = record {
  bytes : l.outbox.bytes.items ≡ l.initial.outbox.bytes.items ++ flat_map kept_reason (take l.prospect-index l.list);
  few : length l.outbox.bytes.items ≤ length l.initial.outbox.bytes.items + l.prospect-index * MOST_REASON;
}
