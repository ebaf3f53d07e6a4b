-- The four rows of a hand, and what is kept of them while a tile changes.
use Rattle.std.specs.Prelude.{◌≡◌, ◌≢◌, ℕ, ◌<◌, ◌≤◌, List, slice_index, if◌then◌else◌}
use Rattle.riichi_tiles.specs.Kinds.{suit_of}
use Rattle.riichi_tiles.specs.Melds.{tiles}
use Rattle.riichi_tiles.specs.Suits.{first_far, is_low, last_far, of_suit}
use Rattle.riichi_tiles.specs.declared.by_suit.BySuit.{BySuit}
use Rattle.riichi_tiles.specs.declared.meld.Meld.{Meld}
use Rattle.riichi_tiles.specs.declared.suit.Suit.{Suit}
use Rattle.riichi_rows.specs.Join.{IsLeastSum}
use Rattle.riichi_rows.specs.Lanes.{lane}
use Rattle.riichi_rows.specs.Row.{AreJoinedBeside}
use Rattle.riichi_rows.specs.declared.joined.JoinedRows.{JoinedRows}
use Rattle.riichi_rows.specs.declared.row.SuitRow.{SuitRow}
use Rattle.riichi_shape.specs.Special.{AreSpecialForms}
use Rattle.riichi_shape.specs.Suits.{AreHandCaps, IsRowOf}
use Rattle.riichi_shape.specs.declared.hand_forms.HandForms.{HandForms}
use Rattle.riichi_shape.specs.declared.halves.Halves.{Halves}
use Rattle.riichi_shape.specs.declared.hand_joins.HandJoins.{HandJoins}

-- each is the marked row of its suit of the hand
abbrev pub AreRowsOf : List ℕ → List Meld → BySuit SuitRow → Type 0
AreRowsOf hand melds rows = (suit : Suit) → IsRowOf suit hand melds (of_suit rows suit)

-- two hands that have the same tiles of every other kind
pub record DifferAt (kind : ℕ) (before after : List ℕ) : Type 0 where
  pub others : (other : ℕ) → other ≢ kind → slice_index after other ≡ slice_index before other

-- the row of the suit of a kind
abbrev pub IsRowAt : List ℕ → List Meld → ℕ → SuitRow → Type 0
IsRowAt hand melds kind row = IsRowOf (suit_of kind) hand melds row

-- no kind is melded more than four times
abbrev pub IsMeldedFew : List Meld → Type 0
IsMeldedFew melds = (kind : ℕ) → kind < 34 → tiles melds kind ≤ 4

-- two hands that have the same rows but in one suit
abbrev pub AreSameBut : Suit → BySuit SuitRow → BySuit SuitRow → Type 0
AreSameBut own before after = (suit : Suit) → suit ≢ own → of_suit after suit ≡ of_suit before suit

-- the least sums of the rows of two suits
abbrev pub AreJoinedTwo : SuitRow → SuitRow → JoinedRows → Type 0
AreJoinedTwo a b joined = IsLeastSum (lane a.entries.lacks) (lane b.entries.lacks) (lane joined.sums.lacks)

-- the join of the half that a suit is not in
abbrev pub far_half : Halves → Suit → JoinedRows
far_half halves suit = if is_low suit then halves.high else halves.low

-- each half's is the join of its two suits
abbrev pub AreHalvesOf : BySuit SuitRow → Halves → Type 0
AreHalvesOf rows halves = (suit : Suit) → AreJoinedTwo (of_suit rows (first_far suit)) (of_suit rows (last_far suit)) (far_half halves suit)

-- the joins of the halves, and beside each suit that of the rows of the other three
pub record AreJoinsOf (rows : BySuit SuitRow) (joins : HandJoins) : Type 0 where
  pub halves : AreHalvesOf rows joins.halves
  pub beside : (suit : Suit) → AreJoinedBeside suit rows (of_suit joins.beside suit)

-- the halves, or all joins, of rows that differ from these in one suit alone
pub record AreHalvesBeside (own : Suit) (halves : Halves) (rows : BySuit SuitRow) : Type 0 where
  pub before : BySuit SuitRow
  pub are_halves : AreHalvesOf before halves
  pub same : AreSameBut own before rows

pub record IsChangedAt (own : Suit) (joins : HandJoins) (rows : BySuit SuitRow) : Type 0 where
  pub before : BySuit SuitRow
  pub are_joins : AreJoinsOf before joins
  pub same : AreSameBut own before rows

-- the joins of the rows of a hand
pub record AreJoinsOfHand (hand : List ℕ) (melds : List Meld) (joins : HandJoins) : Type 0 where
  pub rows : BySuit SuitRow
  pub are_rows : AreRowsOf hand melds rows
  pub are_joins : AreJoinsOf rows joins

-- the joins of a hand that differs at one kind alone
pub record AreJoinsBeside (kind : ℕ) (hand : List ℕ) (melds : List Meld) (joins : HandJoins) : Type 0 where
  pub before : List ℕ
  pub joins_before : AreJoinsOfHand before melds joins
  pub differ : DifferAt kind before hand

-- the rows of a hand with their joins, what it lacks of the other forms, and what its melds leave
pub record AreFormsOf (hand : List ℕ) (melds : List Meld) (forms : HandForms) : Type 0 where
  pub are_rows : AreRowsOf hand melds forms.rows
  pub are_joins : AreJoinsOf forms.rows forms.joins
  pub special : AreSpecialForms hand melds forms.special
  pub are_caps : AreHandCaps melds forms.caps
