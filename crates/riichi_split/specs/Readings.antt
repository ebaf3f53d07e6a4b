-- What a reading of a hand is.
use Rattle.std.specs.Prelude.{ℕ, ◌≡◌, ◌≢◌, ◌+◌, ◌<◌, List, [], ◌∷◌, ◌++◌, length, slice_index, Contains, All, AllPairs, IsTrue}
use Rattle.riichi_tiles.specs.declared.block.Block.{Block}
use Rattle.riichi_tiles.specs.declared.block.Block.TheVariants.{Pair}
use Rattle.riichi_split.specs.declared.reading.Reading.{Reading}
use Rattle.riichi_split.specs.declared.reading.Reading.TheVariants.{Standard, SevenPairs, Orphans}
use Rattle.riichi_tiles.specs.Kinds.{is_orphan}
use Rattle.riichi_tiles.specs.Blocks.{copies, IsOrderedFrom}
use Rattle.riichi_tiles.specs.Forms.{AreMadeOf, IsSevenPairs, IsThirteenOrphans}

-- Sets and a pair which, with so many melds, are four sets and a pair, and are just the tiles. The sets are listed in order, so that each collection of them is one list.
pub record IsSplit (counts : List ℕ) (melds : ℕ) (sets : List Block) (pair : ℕ) : Type 0 where
  pub four : length sets + melds ≡ 4
  pub made_of : AreMadeOf counts sets pair
  pub in_order : IsOrderedFrom 0 sets

-- a block of the split which the winning tile completes
pub record IsDone (winning : ℕ) (sets : List Block) (pair : ℕ) (done : Block) : Type 0 where
  pub is_there : Contains (sets ++ Pair pair ∷ []) done
  pub has_winning : 0 < copies done winning

-- each terminal and honour is held
abbrev pub HasEachOrphan : List ℕ → Type 0
HasEachOrphan counts = (kind : ℕ) → kind < 34 → IsTrue (is_orphan kind) → 0 < slice_index counts kind

-- a reading of the tiles beside so many melds, won by that tile; seven pairs and thirteen orphans stand beside no meld
abbrev pub IsReading : List ℕ → ℕ → ℕ → Reading → Type 0
IsReading counts melds winning (Standard sets pair done) = IsSplit counts melds sets pair × IsDone winning sets pair done
IsReading counts melds winning SevenPairs = (melds ≡ 0) × IsSevenPairs counts
IsReading counts melds winning Orphans = (melds ≡ 0) × IsThirteenOrphans counts

-- the list has each reading once, and nothing else
pub record AreTheReadings (counts : List ℕ) (melds winning : ℕ) (readings : List Reading) : Type 0 where
  pub sound : All (IsReading counts melds winning) readings
  pub complete : (reading : Reading) → IsReading counts melds winning reading → Contains readings reading
  pub once : AllPairs ◌≢◌ readings
