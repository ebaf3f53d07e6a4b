use Rattle.std.proofs.Common.{◌≡◌, ◌≤◌, ◌*◌, take}
use Rattle.riichi_explain.specs.Fu.{fu_total}
use Rattle.riichi_explain.proofs.fu.fu_total.Given as goal

abbrev pub invariant-loop-row : goal.invariant-loop-row
invariant-loop-row l = (l.sum ≡ fu_total (take l.row-index l.rows)) × (l.sum ≤ 255 * l.row-index)
