-- What waits need of one suit.
use Rattle.std.specs.Prelude.{◌≡◌, ℕ, ◌<◌, ◌≤◌, slice_index}
use Rattle.riichi_tiles.specs.Suits.{of_suit}
use Rattle.riichi_tiles.specs.declared.by_suit.BySuit.{BySuit}
use Rattle.riichi_tiles.specs.declared.suit.Suit.{Suit}
use Rattle.riichi_split.specs.Marks.{MarksBelow}
use Rattle.riichi_split.specs.SuitTiles.{OneSuit, AreSets, AreSetsAndPair, HasPairs, with_tile}
use Rattle.riichi_cuts.specs.declared.suit_cut.SuitCut.{SuitCut}

-- fewer than four of the rank are there, and with one more of it the tiles are so
abbrev pub Makes : (OneSuit → Type 0) → OneSuit → ℕ → Type 0
Makes AreSo tiles rank = (slice_index tiles.held rank < 4) × AreSo (with_tile tiles rank)

-- how many pairs the tiles are beside sets, and just the ranks of which one more makes sets, or sets and a pair
pub record IsCut (tiles : OneSuit) (cut : SuitCut) : Type 0 where
  pub pairs : HasPairs tiles cut.pairs
  pub few : cut.pairs ≤ 2
  pub sets : MarksBelow (Makes AreSets tiles) 9 cut.sets
  pub pair : MarksBelow (Makes AreSetsAndPair tiles) 9 cut.pair

-- the cut of each suit
abbrev pub AreCuts : BySuit OneSuit → BySuit SuitCut → Type 0
AreCuts tiles cuts = (suit : Suit) → IsCut (of_suit tiles suit) (of_suit cuts suit)

-- the ranks of a suit that complete the hand, where the other suits are so many pairs beside sets: with the pair, or as sets
pub record AreBeside (cut : SuitCut) (others ranks : ℕ) : Type 0 where
  pub pair : others ≡ 0 → ranks ≡ cut.pair
  pub sets : others ≡ 1 → ranks ≡ cut.sets
  pub none : 1 < others → ranks ≡ 0
