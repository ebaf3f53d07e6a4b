-- Blocks of tiles: the sets and pairs that a hand is made of.
use Rattle.std.specs.Prelude.{ℕ, ◌+◌, ◌*◌, ◌<◌, ◌≤◌, Bool, true, false, List, [], ◌∷◌, if◌then◌else◌, nat_lt, ◌==◌}
use Rattle.riichi_tiles.specs.Kinds.{IsRunLow}
use Rattle.riichi_tiles.specs.declared.block.Block.{Block}
use Rattle.riichi_tiles.specs.declared.block.Block.TheVariants.{Run, Triplet, Pair}

-- the tiles of a kind in a block
abbrev pub copies : Block → ℕ → ℕ
copies (Run low) kind = if nat_lt kind low then 0 else (if nat_lt kind (low + 3) then 1 else 0)
copies (Triplet held) kind = if kind == held then 3 else 0
copies (Pair held) kind = if kind == held then 2 else 0

-- the tiles of a kind in all of some blocks
abbrev pub total : List Block → ℕ → ℕ
total [] kind = 0
total (block ∷ blocks) kind = copies block kind + total blocks kind

-- neither a run nor a triplet
abbrev pub is_pair : Block → Bool
is_pair (Run low) = false
is_pair (Triplet held) = false
is_pair (Pair held) = true

-- a run or a triplet
abbrev pub IsSet : Block → Type 0
IsSet (Run low) = IsRunLow low
IsSet (Triplet kind) = kind < 34
IsSet (Pair kind) = ⊥

-- the order in which sets are listed: by their lowest tile, a triplet before the runs
abbrev pub place_in_order : Block → ℕ
place_in_order (Triplet kind) = 2 * kind
place_in_order (Run low) = 2 * low + 1
place_in_order (Pair kind) = 2 * kind

-- the blocks stand in order, from a place on
abbrev pub IsOrderedFrom : ℕ → List Block → Type 0
IsOrderedFrom place [] = Unit {0}
IsOrderedFrom place (block ∷ blocks) = (place ≤ place_in_order block) × IsOrderedFrom (place_in_order block) blocks
