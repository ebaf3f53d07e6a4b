-- What a suit row shows.
use Rattle.std.specs.Prelude.{ℕ, Option}
use Rattle.riichi_tiles.specs.Suits.{first_far, last_far, of_suit, partner}
use Rattle.riichi_tiles.specs.declared.by_suit.BySuit.{BySuit}
use Rattle.riichi_tiles.specs.declared.suit.Suit.{Suit}
use Rattle.riichi_rows.specs.Join.{IsLeastSum}
use Rattle.riichi_rows.specs.Lanes.{lane}
use Rattle.riichi_rows.specs.Suit.{row_entries}
use Rattle.riichi_rows.specs.declared.joined.JoinedRows.{JoinedRows}
use Rattle.riichi_rows.specs.declared.row.SuitRow.{SuitRow}

-- the entry of so many sets and pairs
abbrev pub entries_of_row : SuitRow → ℕ → ℕ → Option ℕ
entries_of_row row = row_entries row.entries.lacks

-- the entries of each suit's row
abbrev pub suit_entries : BySuit SuitRow → Suit → ℕ → ℕ → Option ℕ
suit_entries rows suit = entries_of_row (of_suit rows suit)

-- the least sums of the rows of the three suits beside one
pub record AreJoinedBeside (suit : Suit) (rows : BySuit SuitRow) (x : JoinedRows) : Type 0 where
  pub last_two : ℕ → ℕ → ℕ
  pub two_least : IsLeastSum (lane (of_suit rows (first_far suit)).entries.lacks) (lane (of_suit rows (last_far suit)).entries.lacks) last_two
  pub least : IsLeastSum (lane (of_suit rows (partner suit)).entries.lacks) last_two (lane x.sums.lacks)
