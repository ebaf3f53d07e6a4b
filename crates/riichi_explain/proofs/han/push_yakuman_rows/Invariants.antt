use Rattle.std.proofs.Common.{◌≡◌, ◌++◌, map}
use Rattle.riichi_explain.specs.Han.{yakuman_row}
use Rattle.riichi_explain.proofs.han.push_yakuman_rows.Given as goal

abbrev pub invariant-loop-yaku : goal.invariant-loop-yaku
invariant-loop-yaku l = (l.initial.yaku-iterator ≡ l.yielded ++ l.yaku-iterator) × (l.rows.items ≡ map yakuman_row l.yielded)
