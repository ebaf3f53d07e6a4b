use Rattle.std.proofs.Common.{◌≡◌, ◌≤◌, ◌*◌}
use Rattle.std.specs.List.{sum_by, range_with_len}
use Rattle.riichi_explain.specs.Dora.{dora_by}
use Rattle.riichi_explain.proofs.dora.shown_dora.Given as goal

abbrev pub invariant-loop-number : goal.invariant-loop-number
invariant-loop-number l = (l.sum ≡ sum_by (dora_by l.indicators l.win) (range_with_len 0 l.number)) × (l.sum ≤ 84 * l.number)
