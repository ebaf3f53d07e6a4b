use Rattle.std.proofs.Common.{◌≡◌, ◌+◌, ◌*◌, ◌≤◌, ◌++◌, length, map, take}
use Rattle.desk_json.proofs.Lists.{is_begun}
use Rattle.desk_json.specs.Parts.{listed}
use Rattle.desk_study.specs.Found.{one_json}
use Rattle.desk_study.specs.declared.chance_objects.TheConstants.{MOST_AFTER}
use Rattle.desk_study.proofs.chances.put_each_member.Given as goal

-- those so far are put
abbrev pub invariant-loop-one : goal.invariant-loop-one
invariant-loop-one l = record {
  bytes : l.outbox.bytes.items ≡ l.initial.outbox.bytes.items ++ listed (map (one_json l.others.items l.turns) (take l.one-index l.each));
  begun : l.later ≡ is_begun (take l.one-index l.each);
  few : length l.outbox.bytes.items ≤ length l.initial.outbox.bytes.items + l.one-index * MOST_AFTER;
}
