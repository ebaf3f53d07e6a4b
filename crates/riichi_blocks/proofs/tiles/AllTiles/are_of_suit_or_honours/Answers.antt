use Rattle.std.proofs.Common.{◌∙◌, ◌||◌}
use Rattle.riichi_tiles.proofs.KindSets.{either_where}
use Rattle.riichi_blocks.specs.Kinds.{is_honour, is_of_suit}
use Rattle.riichi_blocks.proofs.tiles.AllTiles.are_of_suit_or_honours.Goals as goal

pub returns : goal.returns
returns c = c.are_all.ensures (λ kind. is_of_suit c.args.suit kind || is_honour kind)
    (c.either.ensures ∙ rw (c.of_suit.ensures, c.honours.ensures) (either_where (is_of_suit c.args.suit) is_honour))
