use Rattle.std.proofs.Common.{◌≡◌, ◌++◌}
use Rattle.std.specs.List.{flat_map}
use Rattle.riichi_yaku.proofs.InOrder.{spaced}
use Rattle.riichi_yaku.proofs.yaku_set.push_words.Given as goal

abbrev pub invariant-loop-yaku : goal.invariant-loop-yaku
invariant-loop-yaku g l = (l.initial.yaku-iterator ≡ l.yielded ++ l.yaku-iterator) × (l.text.bytes ≡ l.fn.text.bytes ++ flat_map spaced l.yielded)
