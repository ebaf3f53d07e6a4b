use Rattle.std.proofs.Common.{◌≡◌, ◌++◌}
use Rattle.std.specs.List.{sum_by}
use Rattle.riichi_yaku.specs.Table.{han}
use Rattle.riichi_yaku.proofs.yaku_set.YakuSet.han.Given as goal

abbrev pub invariant-loop-yaku : goal.invariant-loop-yaku
invariant-loop-yaku l = (l.initial.yaku-iterator ≡ l.yielded ++ l.yaku-iterator) × (l.sum ≡ sum_by (han l.concealed) l.yielded)
