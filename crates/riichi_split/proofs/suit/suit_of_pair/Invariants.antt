use Rattle.std.proofs.Common.{◌≢◌, ◌*◌, ◌<◌}
use Rattle.riichi_tiles.specs.Kinds.{first_of}
use Rattle.riichi_tiles.specs.Suits.{of_suit}
use Rattle.riichi_tiles.specs.declared.suit.Suit.{Suit}
use Rattle.riichi_split.proofs.suit.suit_of_pair.Given as goal

-- none of the suits before leaves two
abbrev pub invariant-loop-suit : goal.invariant-loop-suit
invariant-loop-suit l = (suit : Suit) → first_of suit < 9 * l.suit-index → of_suit l.rests suit ≢ 2
