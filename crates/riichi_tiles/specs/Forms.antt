-- The forms of a winning hand: sets and a pair, seven pairs, thirteen orphans. Tiles are a list with the count of each of
-- the 34 kinds; what stands behind these isn't looked at.
use Rattle.std.specs.Prelude.{◌≡◌, ◌==◌, ℕ, ◌-◌, ◌<◌, ◌⊎◌, IsTrue, List, ◌∷◌, All, filter, length, slice_index, sum_by, if◌then◌else◌}
use Rattle.riichi_tiles.specs.Blocks.{IsSet, total}
use Rattle.riichi_tiles.specs.Kinds.{is_orphan}
use Rattle.riichi_tiles.specs.Melds.{every_kind}
use Rattle.riichi_tiles.specs.declared.block.Block.{Block}
use Rattle.riichi_tiles.specs.declared.block.Block.TheVariants.{Pair}

-- the tiles are just those of these sets and this pair
pub record AreMadeOf (counts : List ℕ) (sets : List Block) (pair : ℕ) : Type 0 where
  pub are_sets : All IsSet sets
  pub is_kind : pair < 34
  pub adds_up : (kind : ℕ) → kind < 34 → slice_index counts kind ≡ total (Pair pair ∷ sets) kind

-- so many sets, and a pair
pub record IsSetsAndPair (sets : ℕ) (counts : List ℕ) : Type 0 where
  pub blocks : List Block
  pub pair : ℕ
  pub made_of : AreMadeOf counts blocks pair
  pub has_sets : length blocks ≡ sets

-- two of each of seven kinds
pub record IsSevenPairs (counts : List ℕ) : Type 0 where
  pub two_or_none : (kind : ℕ) → kind < 34 → (slice_index counts kind ≡ 0) ⊎ (slice_index counts kind ≡ 2)
  pub fourteen : sum_by (slice_index counts) every_kind ≡ 14

-- the terminals and honours, in the order of the kinds
abbrev pub orphan_kinds : List ℕ
orphan_kinds = filter is_orphan every_kind

-- the copies of a kind, where each terminal and honour is there once, and one of them twice
abbrev pub orphan_copies : ℕ → ℕ → ℕ
orphan_copies doubled kind = if is_orphan kind then (if kind == doubled then 2 else 1) else 0

-- each terminal and honour once, one of them twice
pub record IsThirteenOrphans (counts : List ℕ) : Type 0 where
  pub doubled : ℕ
  pub is_kind : doubled < 34
  pub doubles_orphan : IsTrue (is_orphan doubled)
  pub at : (kind : ℕ) → kind < 34 → slice_index counts kind ≡ orphan_copies doubled kind

-- beside so many melds: the other sets of four and a pair, or without any meld seven pairs or thirteen orphans
abbrev pub HasWinningForm : ℕ → List ℕ → Type 0
HasWinningForm melds counts = IsSetsAndPair (4 - melds) counts ⊎ ((melds ≡ 0) × IsSevenPairs counts) ⊎ ((melds ≡ 0) × IsThirteenOrphans counts)
