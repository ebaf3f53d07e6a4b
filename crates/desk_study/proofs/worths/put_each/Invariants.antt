use Rattle.std.proofs.Common.{◌≡◌, ◌+◌, ◌*◌, ◌≤◌, ◌++◌, length, take}
use Rattle.std.specs.List.{flat_map}
use Rattle.desk_study.specs.declared.worths.TheConstants.{MOST_AFTER}
use Rattle.desk_study.specs.FoundWorths.{one_told}
use Rattle.desk_study.proofs.worths.put_each.Given as goal

-- those so far are put
abbrev pub invariant-loop-one : goal.invariant-loop-one
invariant-loop-one l = record {
  bytes : l.outbox.bytes.items ≡ l.initial.outbox.bytes.items ++ flat_map (one_told l.in_words l.each) (take l.one-index l.each);
  few : length l.outbox.bytes.items ≤ length l.initial.outbox.bytes.items + l.one-index * MOST_AFTER;
}
