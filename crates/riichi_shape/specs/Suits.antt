-- The four suits of a hand, each with the most tiles of a kind that a winning multiset may hold beside the melds.
use Rattle.std.specs.Prelude.{◌≡◌, ℕ, ◌+◌, ◌-◌, ◌<◌, ◌≤◌, List, slice_index}
use Rattle.riichi_rows.specs.Marks.{IsMarkedRow}
use Rattle.riichi_rows.specs.declared.row.SuitRow.{SuitRow}
use Rattle.riichi_tiles.specs.Kinds.{first_of, has_runs, kinds_of}
use Rattle.riichi_tiles.specs.Melds.{tiles}
use Rattle.riichi_tiles.specs.Suits.{of_suit}
use Rattle.riichi_tiles.specs.declared.by_suit.BySuit.{BySuit}
use Rattle.riichi_tiles.specs.declared.meld.Meld.{Meld}
use Rattle.riichi_tiles.specs.declared.suit.Suit.{Suit}
use Rattle.riichi_shape.specs.declared.suit_caps.SuitCaps.{SuitCaps}

-- the caps of a suit
pub record AreCapsOf (suit : Suit) (melds : List Meld) (caps : List ℕ) : Type 0 where
  pub caps_at : (rank : ℕ) → rank < kinds_of suit → slice_index caps rank ≡ 4 - tiles melds (first_of suit + rank)
  pub none_past : (rank : ℕ) → kinds_of suit ≤ rank → slice_index caps rank ≡ 0

-- the counts and caps of a suit
pub record IsSuitOf (suit : Suit) (hand : List ℕ) (melds : List Meld) (counts caps : List ℕ) : Type 0 where
  pub counts_at : (rank : ℕ) → rank < kinds_of suit → slice_index counts rank ≡ slice_index hand (first_of suit + rank)
  pub are_caps : AreCapsOf suit melds caps

-- the caps of each suit
abbrev pub AreHandCaps : List Meld → BySuit SuitCaps → Type 0
AreHandCaps melds caps = (suit : Suit) → AreCapsOf suit melds (of_suit caps suit).left

-- the marked row of a suit
pub record IsRowOf (suit : Suit) (hand : List ℕ) (melds : List Meld) (row : SuitRow) : Type 0 where
  pub counts : List ℕ
  pub caps : List ℕ
  pub is_suit : IsSuitOf suit hand melds counts caps
  pub is_row : IsMarkedRow (has_runs suit) counts caps row
