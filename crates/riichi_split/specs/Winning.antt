-- Winning hands.
use Rattle.std.specs.Prelude.{ℕ, ◌<◌, List, slice_index}
use Rattle.riichi_tiles.specs.declared.block.Block.{Block}
use Rattle.riichi_split.specs.declared.reading.Reading.{Reading}
use Rattle.riichi_split.specs.Readings.{IsSplit, IsReading}

-- the tiles have a reading beside so many melds, won by that tile
abbrev pub HasReading : List ℕ → ℕ → ℕ → Type 0
HasReading counts melds winning = (reading : Reading) × IsReading counts melds winning reading

-- the tiles have a reading, won by one of them
abbrev pub IsWin : List ℕ → ℕ → Type 0
IsWin counts melds = (winning : ℕ) × (0 < slice_index counts winning) × HasReading counts melds winning

-- sets and a pair, with so many melds among the sets, listed in order
abbrev pub HasSplit : List ℕ → ℕ → Type 0
HasSplit counts melds = (sets : List Block) × (pair : ℕ) × IsSplit counts melds sets pair
