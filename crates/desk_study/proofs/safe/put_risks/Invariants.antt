use Rattle.std.proofs.Common.{◌≡◌, ◌+◌, ◌*◌, ◌≤◌, ◌++◌, length, take}
use Rattle.std.specs.List.{flat_map}
use Rattle.riichi_study.specs.declared.safe_reasons.TheConstants.{MOST_RISK_REASON}
use Rattle.riichi_study.specs.SafeReasons.{risk_reason}
use Rattle.riichi_tiles.specs.Melds.{every_kind}
use Rattle.desk_study.proofs.safe.put_risks.Given as goal

-- the kinds so far are put
abbrev pub invariant-loop-number : goal.invariant-loop-number
invariant-loop-number l = record {
  bytes : l.outbox.bytes.items ≡ l.initial.outbox.bytes.items ++ flat_map (risk_reason l.asked) (take l.number every_kind);
  few : length l.outbox.bytes.items ≤ length l.initial.outbox.bytes.items + l.number * MOST_RISK_REASON;
}
