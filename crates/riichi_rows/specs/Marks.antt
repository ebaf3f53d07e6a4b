-- Which ranks the least choices of each entry of a row lack.
use Rattle.std.specs.Prelude.{◌≡◌, ℕ, zero, suc, ◌+◌, ◌^◌, ◌<◌, ◌≤◌, ◌↔◌, Bool, IsTrue, nat_lt, List, Some, bit_and}
use Rattle.riichi_rows.specs.Lacked.{ChoiceLacks}
use Rattle.riichi_rows.specs.Lanes.{lacks_with, lane}
use Rattle.riichi_rows.specs.Row.{entries_of_row}
use Rattle.riichi_rows.specs.Suit.{IsSuitRow}
use Rattle.riichi_rows.specs.declared.joined.JoinedRows.{JoinedRows}
use Rattle.riichi_rows.specs.declared.rank_set.RankSet.{RankSet}
use Rattle.riichi_rows.specs.declared.row.SuitRow.{SuitRow}

-- the lacks of the suit with one more tile of the rank
abbrev pub with_more : SuitRow → ℕ → ℕ → ℕ → ℕ
with_more row zero = lane row.first.lacks
with_more row (suc rank) = lacks_with (2 ^ rank) row.entries.lacks row.marks

-- the row says that some least choice of so many sets and pairs lacks the rank
abbrev pub is_marked : SuitRow → ℕ → ℕ → ℕ → Bool
is_marked row sets pairs rank = nat_lt (with_more row rank sets pairs) (lane row.entries.lacks sets pairs)

-- it says so of just the ranks that some least choice lacks
pub record AreMarks (runs : Bool) (counts caps : List ℕ) (row : SuitRow) : Type 0 where
  pub at : (sets pairs n rank : ℕ) → sets ≤ 4 → pairs ≤ 1 → rank < 9 → entries_of_row row sets pairs ≡ Some n → IsTrue (is_marked row sets pairs rank) ↔ ChoiceLacks runs counts caps sets pairs n rank

-- the row of a suit with its marks
pub record IsMarkedRow (runs : Bool) (counts caps : List ℕ) (row : SuitRow) : Type 0 where
  pub least : IsSuitRow runs counts caps (entries_of_row row)
  pub marks : AreMarks runs counts caps row

-- an entry of the row that is marked at the rank, and a sum of the others: together so many sets and one pair, and they lack n
pub record MarkedBeside (row : SuitRow) (others : JoinedRows) (sets n rank : ℕ) : Type 0 where
  pub own_sets : ℕ
  pub own_pairs : ℕ
  pub other_sets : ℕ
  pub other_pairs : ℕ
  pub lack : ℕ
  pub all_sets : own_sets + other_sets ≡ sets
  pub one_pair : own_pairs + other_pairs ≡ 1
  pub entry : entries_of_row row own_sets own_pairs ≡ Some lack
  pub total : lack + lane others.sums.lacks other_sets other_pairs ≡ n
  pub marked : IsTrue (is_marked row own_sets own_pairs rank)

-- a rank of the set
abbrev pub has_rank : RankSet → ℕ → Bool
has_rank set zero = set.first
has_rank set (suc rank) = nat_lt 0 (bit_and set.later (2 ^ rank))

-- just the ranks of the set are marked so
pub record AreMarkedBeside (row : SuitRow) (others : JoinedRows) (sets n : ℕ) (ranks : RankSet) : Type 0 where
  pub at : (rank : ℕ) → rank < 9 → IsTrue (has_rank ranks rank) ↔ MarkedBeside row others sets n rank
