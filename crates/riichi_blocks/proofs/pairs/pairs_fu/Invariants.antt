use Rattle.std.proofs.Common.{◌≡◌, ◌≤◌, ◌*◌, take, sum_by}
use Rattle.riichi_blocks.specs.Pairs.{fu_if_pair}
use Rattle.riichi_blocks.proofs.pairs.pairs_fu.Given as goal

abbrev pub invariant-loop-block : goal.invariant-loop-block
invariant-loop-block l = (l.sum ≡ sum_by (fu_if_pair l.win) (take l.block-index l.blocks)) × (l.sum ≤ 6 * l.block-index)
