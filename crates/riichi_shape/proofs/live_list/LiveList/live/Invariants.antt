use Rattle.std.proofs.Common.{◌≡◌, ◌≤◌, ◌*◌, take}
use Rattle.std.specs.List.{sum}
use Rattle.riichi_shape.proofs.live_list.LiveList.live.Given as goal

abbrev pub invariant-loop-copies : goal.invariant-loop-copies
invariant-loop-copies l = record {
  total : l.live ≡ sum (take l.copies-index l.copies-items);
  few : l.live ≤ 4 * l.copies-index;
}
