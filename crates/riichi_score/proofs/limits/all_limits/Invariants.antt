use Rattle.std.proofs.Common.{◌≡◌, ◌++◌}
use Rattle.std.specs.List.{sum_by}
use Rattle.riichi_score.specs.Limits.{limits_in}
use Rattle.riichi_score.proofs.limits.all_limits.Given as goal

abbrev pub invariant-loop-yaku : goal.invariant-loop-yaku
invariant-loop-yaku l = (l.initial.yaku-iterator ≡ l.yielded ++ l.yaku-iterator) × (l.sum ≡ sum_by (limits_in l.reading l.win) l.yielded)
