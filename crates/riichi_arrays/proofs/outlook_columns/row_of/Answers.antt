use Rattle.riichi_shape.proofs.ShapeFacts.{melds_few}
use Rattle.riichi_arrays.proofs.outlook_columns.row_of.Goals as goal

pub shanten_with-requires : goal.shanten_with-requires
shanten_with-requires g c = rw c.melds.ensures (melds_few c.in-Some.hand c.tiles.ensures.shape)
