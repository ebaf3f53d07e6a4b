use Rattle.std.proofs.Common.{◌≡◌, ◌≤◌, length, take}
use Rattle.desk_reasons.specs.Trees.{others_of}
use Rattle.desk_reasons.proofs.others.others_of.Given as goal

abbrev pub invariant-loop-one : goal.invariant-loop-one
invariant-loop-one l =
    (l.others.items ≡ others_of l.shown (take l.one-index l.ranked)) × (length l.others.items ≤ l.one-index)
