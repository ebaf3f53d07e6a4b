-- The sets that can be made of tiles.
use Rattle.std.specs.Prelude.{ℕ, List, [], ◌∷◌, if◌then◌else◌}
use Rattle.std.specs.List.{flat_map}
use Rattle.riichi_tiles.specs.Kinds.{begins_run}
use Rattle.riichi_tiles.specs.Melds.{every_kind}
use Rattle.riichi_tiles.specs.declared.block.Block.{Block}
use Rattle.riichi_tiles.specs.declared.block.Block.TheVariants.{Run, Triplet}

-- the sets whose lowest tile is of this kind
abbrev pub sets_at : ℕ → List Block
sets_at kind = Triplet kind ∷ (if begins_run kind then Run kind ∷ [] else [])

-- all triplets and runs, in their order
unfoldable pub every_set : List Block
every_set = flat_map sets_at every_kind
