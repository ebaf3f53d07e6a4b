use Rattle.std.proofs.Common.{◌≡◌, ◌++◌, map}
use Rattle.riichi_explain.specs.Han.{yaku_row}
use Rattle.riichi_explain.proofs.han.push_yaku_rows.Given as goal

abbrev pub invariant-loop-yaku : goal.invariant-loop-yaku
invariant-loop-yaku l = (l.initial.yaku-iterator ≡ l.yielded ++ l.yaku-iterator) × (l.rows.items ≡ map (yaku_row l.concealed) l.yielded)
