-- Laws of the definitions.
use Rattle.std.specs.Prelude.{ℕ, ◌≡◌, ◌+◌, List, [], ◌∷◌, if◌then◌else◌}
use Rattle.std.specs.List.{AllByRecursion}
use Rattle.riichi_tiles.specs.declared.block.Block.{Block}
use Rattle.riichi_tiles.specs.Blocks.{IsSet, IsOrderedFrom}
use Rattle.riichi_split.specs.Dones.{same_block}

-- how often a block comes
abbrev pub times : Block → List Block → ℕ
times block [] = 0
times block (first ∷ blocks) = (if same_block block first then 1 else 0) + times block blocks

-- each block comes as often in one list as in the other
abbrev pub AreOneCollection : List Block → List Block → Type 0
AreOneCollection blocks others = (block : Block) → times block blocks ≡ times block others

-- the collection of some sets stands in order in one list, and in no other
pub record HasOneOrder (sets : List Block) : Type 0 where
  pub ordered : List Block
  pub one_collection : AreOneCollection sets ordered
  pub each_a_set : AllByRecursion IsSet ordered
  pub in_order : IsOrderedFrom 0 ordered
  pub only : (others : List Block) → AreOneCollection sets others → AllByRecursion IsSet others → IsOrderedFrom 0 others → others ≡ ordered

abbrev pub EachCollectionHasOneOrder : Type 0
EachCollectionHasOneOrder = (sets : List Block) → AllByRecursion IsSet sets → HasOneOrder sets
