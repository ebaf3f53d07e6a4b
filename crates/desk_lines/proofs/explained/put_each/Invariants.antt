use Rattle.std.proofs.Common.{◌≡◌, ◌≤◌, ◌+◌, ◌*◌, ◌++◌, length, take}
use Rattle.std.specs.List.{flat_map}
use Rattle.riichi_explain.specs.Others.{other_reading_text}
use Rattle.riichi_explain.specs.declared.others.TheConstants.{MOST_OTHER_READING}
use Rattle.desk_lines.proofs.explained.put_each.Given as goal

-- the lines of the readings so far
abbrev pub invariant-loop-one : goal.invariant-loop-one
invariant-loop-one l = record {
  told : l.outbox.bytes.items ≡ l.initial.outbox.bytes.items ++ flat_map (other_reading_text l.shown l.win) (take l.one-index l.ranked);
  room : length l.outbox.bytes.items ≤ length l.initial.outbox.bytes.items + MOST_OTHER_READING * l.one-index;
}
