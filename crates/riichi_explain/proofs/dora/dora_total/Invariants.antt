use Rattle.std.proofs.Common.{◌≡◌, ◌≤◌, ◌*◌, take}
use Rattle.riichi_explain.specs.Dora.{dora_total}
use Rattle.riichi_explain.proofs.dora.dora_total.Given as goal

abbrev pub invariant-loop-row : goal.invariant-loop-row
invariant-loop-row l = (l.sum ≡ dora_total (take l.row-index l.rows)) × (l.sum ≤ 4294967295 * l.row-index)
