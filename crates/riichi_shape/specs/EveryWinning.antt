-- Every winning multiset beside some melds, as one list, and the least lack of any of them as a number.
use Rattle.std.specs.Prelude.{ℕ, zero, suc, ◌+◌, ◌-◌, ◌==◌, Bool, nat_le, min, ℤ, pos, ◌-ℤ◌, List, [], ◌∷◌, ◌++◌, map, filter, length, slice_index, sum_by}
use Rattle.std.specs.List.{flat_map, list_all}
use Rattle.riichi_tiles.specs.Blocks.{total}
use Rattle.riichi_tiles.specs.Melds.{every_kind, tiles}
use Rattle.riichi_tiles.specs.Sets.{every_set}
use Rattle.riichi_tiles.specs.declared.block.Block.{Block}
use Rattle.riichi_tiles.specs.declared.block.Block.TheVariants.{Pair}
use Rattle.riichi_tiles.specs.declared.meld.Meld.{Meld}
use Rattle.riichi_tiles.specs.Forms.{orphan_copies, orphan_kinds}
use Rattle.riichi_shape.specs.Winning.{lacking}

-- every list of so many of some things
unfoldable pub lists_of : {A : Type 0} → List A → ℕ → List (List A)
lists_of things zero = [] ∷ []
lists_of things (suc n) = flat_map (λ first. map (λ rest. first ∷ rest) (lists_of things n)) things

-- the multiset of some blocks
unfoldable pub counts_of_blocks : List Block → List ℕ
counts_of_blocks blocks = map (total blocks) every_kind

-- so many sets and a pair
unfoldable pub every_sets_and_pair : ℕ → List (List ℕ)
every_sets_and_pair sets = flat_map (λ pair. map (λ blocks. counts_of_blocks (Pair pair ∷ blocks)) (lists_of every_set sets)) every_kind

-- two tiles or none of each kind, fourteen in all
unfoldable pub every_seven_pairs : List (List ℕ)
every_seven_pairs = filter (λ wanted. sum_by (slice_index wanted) every_kind == 14) (lists_of (0 ∷ 2 ∷ []) 34)

-- the terminals and honours, with each of them twice in turn
unfoldable pub every_orphans : List (List ℕ)
every_orphans = map (λ doubled. map (orphan_copies doubled) every_kind) orphan_kinds

-- the forms that stand beside no meld
unfoldable pub every_special : ℕ → List (List ℕ)
every_special zero = every_seven_pairs ++ every_orphans
every_special (suc melds) = []

unfoldable pub is_within_four : List Meld → List ℕ → Bool
is_within_four melds wanted = list_all (λ kind. nat_le (slice_index wanted kind + tiles melds kind) 4) every_kind

unfoldable pub every_winning : List Meld → List (List ℕ)
every_winning melds = filter (is_within_four melds) (every_sets_and_pair (4 - length melds) ++ every_special (length melds))

-- the least of some numbers
unfoldable pub least_with : ℕ → List ℕ → ℕ
least_with first [] = first
least_with first (next ∷ rest) = min first (least_with next rest)

unfoldable pub least : List ℕ → ℕ
least [] = 0
least (first ∷ rest) = least_with first rest

-- the least that a hand lacks of any winning multiset
unfoldable pub distance_of : List ℕ → List Meld → ℕ
distance_of hand melds = least (map (lacking hand) (every_winning melds))

-- one less: 0 for a ready hand, -1 for a complete one
abbrev pub shanten_of : List ℕ → List Meld → ℤ
shanten_of hand melds = pos (distance_of hand melds) -ℤ pos 1
