use Rattle.riichi_tiles.proofs.Suits.{each_suit}
use Rattle.riichi_shape.proofs.halves.Halves.of.Goals as goal

pub returns : goal.returns
returns c = each_suit _ c.join_half-2.ensures c.join_half-2.ensures c.join_half.ensures c.join_half.ensures
