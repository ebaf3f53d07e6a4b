use Rattle.std.proofs.Common.{◌≡◌, ◌++◌}
use Rattle.std.specs.List.{list_any}
use Rattle.riichi_score.specs.Limits.{is_double}
use Rattle.riichi_score.proofs.limits.has_double.Given as goal

abbrev pub invariant-loop-yaku : goal.invariant-loop-yaku
invariant-loop-yaku l = (l.initial.yaku-iterator ≡ l.yielded ++ l.yaku-iterator) × (l.found ≡ list_any (is_double l.reading l.win) l.yielded)
