-- How a list of at most four sets is kept.
use Rattle.std.specs.Prelude.{◌≡◌, ℕ, ◌-◌, ◌≤◌, List, ◌++◌, length, replicate, take}
use Rattle.riichi_tiles.specs.declared.block.Block.{Block}
use Rattle.riichi_tiles.specs.declared.block.Block.TheVariants.{Pair}

-- in four places, those that are left holding one and the same block
abbrev pub in_four_places : List Block → List Block
in_four_places sets = sets ++ replicate (4 - length sets) (Pair 0)

-- the first `count` blocks are the sets
pub record AreSets (blocks : List Block) (count : ℕ) : Type 0 where
  pub places : blocks ≡ in_four_places (take count blocks)
  pub counted : count ≡ length (take count blocks)
  pub at_most_four : count ≤ 4
