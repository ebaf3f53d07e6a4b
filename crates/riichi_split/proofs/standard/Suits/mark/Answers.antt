use Rattle.std.proofs.Common.{◌+◌, ◌-◌, arith}
use Rattle.riichi_tiles.specs.Kinds.{first_of, kinds_of}
use Rattle.riichi_tiles.specs.Suits.{of_suit}
use Rattle.riichi_tiles.proofs.Suits.{one_of}
use Rattle.riichi_split.specs.SuitTiles.{Completes}
use Rattle.riichi_split.proofs.KindMarks.{adds-to}
use Rattle.riichi_split.proofs.PairTotals.{passed}
use Rattle.riichi_split.proofs.standard.Suits.mark.Goals as goal

pub returns-then-others-gt1 : goal.returns-then-others-gt1
returns-then-others-gt1 c =
    adds-to (Completes c.args.self.now.tiles) (first_of c.args.suit) (first_of c.args.suit + kinds_of c.args.suit) 0 c.args.marks.now (omega arith)
    (λ kind low high w. passed c.args.self.now.tiles c.args.self.now.pairs c.args.suit (c.total_pairs.result - c.get.result) kind c.requires.counted
    (omega (arith, c.total_pairs.ensures.total, c.get.ensures, one_of (of_suit c.args.self.now.pairs) c.args.suit)) (omega arith) low high w) c.requires.below
