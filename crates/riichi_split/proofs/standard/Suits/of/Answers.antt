use Rattle.std.proofs.Common.{rules}
use Rattle.riichi_tiles.proofs.Suits.{same_by_suits}
use Rattle.riichi_split.specs.SuitTiles.{tiles_of_suit}
use Rattle.riichi_split.proofs.standard.Suits.of.Goals as goal

pub returns-clause-tiles : goal.returns-clause-tiles
returns-clause-tiles c = same_by_suits c.of-tiles.result (tiles_of_suit c.args.counts.now) (λ suit. (let post = c.of-tiles.ensures suit in search rules))

pub returns-clause-counted : goal.returns-clause-counted
returns-clause-counted c = record {
  each = λ suit. (let post = c.of.ensures suit in search rules);
  few = λ suit. (let post = c.of.ensures suit in search rules);
}
