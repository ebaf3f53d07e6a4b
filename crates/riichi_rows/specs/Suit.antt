-- Choices of blocks in one suit, and what a choice lacks. Its ranks go from 0 to 8; a block is named by its lowest rank.
use Rattle.riichi_rows.specs.Lanes.{lane}
use Rattle.std.specs.Prelude.{◌≡◌, ℕ, ◌-◌, ◌<◌, ◌≤◌, Bool, true, false, IsTrue, if◌then◌else◌, nat_lt, List, [], ◌∷◌, sum_by, count_by, slice_index, All, Option, Some, None}
use Rattle.riichi_tiles.specs.Blocks.{total, is_pair}
use Rattle.riichi_tiles.specs.declared.block.Block.{Block}
use Rattle.riichi_tiles.specs.declared.block.Block.TheVariants.{Run, Triplet, Pair}

abbrev pub is_set : Block → Bool
is_set (Run low) = true
is_set (Triplet held) = true
is_set (Pair held) = false

-- the block lies within the nine ranks, and is a run only where there are runs
abbrev pub IsInSuit : Bool → Block → Type 0
IsInSuit runs (Run low) = IsTrue runs × (low < 7)
IsInSuit runs (Triplet held) = held < 9
IsInSuit runs (Pair held) = held < 9

-- a choice of so many sets and pairs, no rank oftener than its cap
pub record IsChoice (runs : Bool) (caps : List ℕ) (sets pairs : ℕ) (blocks : List Block) : Type 0 where
  pub in_suit : All (IsInSuit runs) blocks
  pub has_sets : count_by is_set blocks ≡ sets
  pub has_pairs : count_by is_pair blocks ≡ pairs
  pub in_caps : (rank : ℕ) → rank < 9 → total blocks rank ≤ slice_index caps rank

-- what the blocks have more than the counts, over all ranks
abbrev pub lack : List ℕ → List Block → ℕ
lack counts blocks = sum_by (λ rank. total blocks rank - slice_index counts rank) (0 ∷ 1 ∷ 2 ∷ 3 ∷ 4 ∷ 5 ∷ 6 ∷ 7 ∷ 8 ∷ [])

-- a choice that lacks so many tiles
pub record LackReached (runs : Bool) (counts caps : List ℕ) (sets pairs tiles_lacking : ℕ) : Type 0 where
  pub blocks : List Block
  pub is_choice : IsChoice runs caps sets pairs blocks
  pub lacks : lack counts blocks ≡ tiles_lacking

-- no choice lacks fewer
pub record NoneLess (runs : Bool) (counts caps : List ℕ) (sets pairs tiles_lacking : ℕ) : Type 0 where
  pub bound : (blocks : List Block) → IsChoice runs caps sets pairs blocks → tiles_lacking ≤ lack counts blocks

-- the entry of a row: the least lack of any choice, or none where there is no choice
abbrev pub IsLeastLack : Bool → List ℕ → List ℕ → ℕ → ℕ → Option ℕ → Type 0
IsLeastLack runs counts caps sets pairs (Some n) = LackReached runs counts caps sets pairs n × NoneLess runs counts caps sets pairs n
IsLeastLack runs counts caps sets pairs None = (blocks : List Block) → IsChoice runs caps sets pairs blocks → ⊥

-- the entry that a lane stands for: 255 is none
abbrev pub entry_of : ℕ → Option ℕ
entry_of n = if nat_lt n 255 then Some n else None

-- the entries that sixteen lanes stand for
abbrev pub row_entries : List ℕ → ℕ → ℕ → Option ℕ
row_entries lanes sets pairs = entry_of (lane lanes sets pairs)

-- each entry of a row, for up to four sets and up to one pair, is the least lack
pub record IsSuitRow (runs : Bool) (counts caps : List ℕ) (row : ℕ → ℕ → Option ℕ) : Type 0 where
  pub entry : (sets pairs : ℕ) → sets ≤ 4 → pairs ≤ 1 → IsLeastLack runs counts caps sets pairs (row sets pairs)
