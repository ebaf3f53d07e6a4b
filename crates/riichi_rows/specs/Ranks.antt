-- The tables of a suit from a rank on.
use Rattle.std.specs.Prelude.{ℕ, suc, ◌+◌, ◌^◌, ◌<◌, ◌≤◌, Bool, List, drop, slice_index, slice_set}
use Rattle.riichi_rows.specs.Columns.{AreLeast}
use Rattle.riichi_rows.specs.Lanes.{lane}
use Rattle.riichi_rows.specs.Open.{LeastOpen}
use Rattle.riichi_rows.specs.Seen.{open_seen, seen}
use Rattle.riichi_rows.specs.declared.open.Open.{Open}
use Rattle.riichi_rows.specs.declared.suit_lanes.SuitLanes.{SuitLanes}

-- the counts with one more tile of a rank
abbrev pub one_more : List ℕ → ℕ → List ℕ
one_more counts rank = slice_set counts rank (slice_index counts rank + 1)

-- from a rank on L holds of the counts and caps, for the counts as they are and with one more tile of each rank but the first, by its bit
pub record HoldsFrom (L : List ℕ → List ℕ → ℕ → Type 0) (from : ℕ) (counts caps : List ℕ) : Type 0 where
  pub plain : L (drop from counts) (drop from caps) 0
  pub marks : (r : ℕ) → r < 8 → L (drop from (one_more counts (suc r))) (drop from caps) (2 ^ r)

-- the tables are least, with one more tile of the rank of a bit
abbrev pub OpenLeast : Bool → Open → List ℕ → List ℕ → ℕ → Type 0
OpenLeast runs later counts caps bit = LeastOpen runs counts caps (open_seen bit later)

-- from a rank on
abbrev pub AreRanks : Bool → ℕ → List ℕ → List ℕ → Open → Type 0
AreRanks runs from counts caps later = HoldsFrom (OpenLeast runs later) from counts caps

-- the tables of the whole suit; four tiles of the first rank are as many as any choice holds
pub record AreSuitLanes (runs : Bool) (counts caps : List ℕ) (lanes : SuitLanes) : Type 0 where
  pub plain : AreLeast runs counts caps 0 0 (seen 0 lanes.all)
  pub marks : (r : ℕ) → r < 8 → AreLeast runs (one_more counts (suc r)) caps 0 0 (seen (2 ^ r) lanes.all)
  pub few : slice_index counts 0 < 4 → AreLeast runs (one_more counts 0) caps 0 0 (lane lanes.first.lacks)
  pub many : 4 ≤ slice_index counts 0 → AreLeast runs counts caps 0 0 (lane lanes.first.lacks)
