use Rattle.riichi_blocks.proofs.Tally.{IsTally-none}
use Rattle.riichi_blocks.proofs.blocks.Blocks.new.Goals as goal

pub invariant_of-result : goal.invariant_of-result
invariant_of-result c = rw (c.new.ensures, c.new-2.ensures, c.new-3.ensures, c.new-4.ensures) IsTally-none
