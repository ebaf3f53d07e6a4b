-- The readings of a hand as one list: of all that there are, those that add up to its tiles.
use Rattle.std.specs.Prelude.{ℕ, zero, suc, ◌-◌, ◌==◌, Bool, ◌&&◌, ◌||◌, List, [], ◌∷◌, ◌++◌, map, if◌then◌else◌, nat_le, slice_index}
use Rattle.std.specs.List.{list_all, list_any, flat_map, count_by}
use Rattle.riichi_tiles.specs.Melds.{every_kind}
use Rattle.riichi_tiles.specs.Blocks.{total, place_in_order}
use Rattle.riichi_tiles.specs.Forms.{orphan_copies}
use Rattle.riichi_tiles.specs.declared.block.Block.{Block}
use Rattle.riichi_tiles.specs.declared.block.Block.TheVariants.{Pair}
use Rattle.riichi_split.specs.declared.reading.Reading.{Reading}
use Rattle.riichi_split.specs.declared.reading.Reading.TheVariants.{SevenPairs, Orphans}
use Rattle.riichi_tiles.specs.Kinds.{is_orphan}
use Rattle.riichi_tiles.specs.Sets.{every_set}
use Rattle.riichi_split.specs.declared.split.Split.{Split}
use Rattle.riichi_split.specs.Dones.{readings_with, flagged}

abbrev pub when : {X : Type 0} → Bool → List X → List X
when holds xs = if holds then xs else []

-- each collection of so many sets, listed in order, from a place on
unfoldable pub collections : ℕ → ℕ → List (List Block)
collections place zero = [] ∷ []
collections place (suc more) = flat_map (λ set. when (nat_le place (place_in_order set)) (map (λ sets. set ∷ sets) (collections (place_in_order set) more))) every_set

-- sets and a pair add up to the tiles
abbrev pub adds_up : List ℕ → List Block → ℕ → Bool
adds_up counts sets pair = list_all (λ kind. total (Pair pair ∷ sets) kind == slice_index counts kind) every_kind

-- these sets and this pair, where they add up to the tiles
abbrev pub split_with : List ℕ → List Block → ℕ → List Split
split_with counts sets pair = when (adds_up counts sets pair) (record { sets = sets; pair = pair } ∷ [])

-- those of four sets and a pair, the melds among the sets
abbrev pub splits_of : List ℕ → ℕ → List Split
splits_of counts melds = flat_map (λ sets. flat_map (split_with counts sets) every_kind) (collections 0 (4 - melds))

-- their readings: one for each different block that the winning tile completes
abbrev pub standard_of : List ℕ → ℕ → ℕ → List Reading
standard_of counts melds winning = flat_map (readings_with winning) (splits_of counts melds)

abbrev pub are_seven_pairs : List ℕ → ℕ → Bool
are_seven_pairs counts melds = (melds == 0) && (list_all (λ held. held == 0 || held == 2) counts && (count_by (λ held. held == 2) counts == 7))

abbrev pub are_orphans_with : List ℕ → ℕ → Bool
are_orphans_with counts twice = is_orphan twice && list_all (λ kind. slice_index counts kind == orphan_copies twice kind) every_kind

abbrev pub are_orphans : List ℕ → ℕ → Bool
are_orphans counts melds = (melds == 0) && list_any (are_orphans_with counts) every_kind

-- the readings of the tiles beside so many melds, won by that tile
unfoldable pub readings_of : List ℕ → ℕ → ℕ → List Reading
readings_of counts melds winning =
    flagged (are_seven_pairs counts melds) SevenPairs ++ (flagged (are_orphans counts melds) Orphans ++ standard_of counts melds winning)
