-- The yaku of triplets and kongs. A kong counts as a triplet. The number before each is its number in the table of yaku (`Table.antt`).
use Rattle.std.specs.Prelude.{ℕ, ◌+◌, Bool, ◌==◌, nat_le, List, count_by}
use Rattle.std.specs.List.{list_any, list_all}
use Rattle.riichi_tiles.specs.Kinds.{first_of}
use Rattle.riichi_blocks.specs.declared.hand_block.HandBlock.{HandBlock}
use Rattle.riichi_blocks.specs.Kinds.{number_suits, every_rank}
use Rattle.riichi_blocks.specs.HandBlocks.{is_triplet_or_kong, is_kong_block, is_concealed_triplet, has_triplet}

-- triplets of this rank in all three suits
abbrev pub has_triplet_in_each_suit : List HandBlock → ℕ → Bool
has_triplet_in_each_suit blocks rank = list_all (λ suit. has_triplet blocks (first_of suit + rank)) number_suits

-- 19: for some number, a triplet of it in each suit
abbrev pub is_triple_pung : List HandBlock → Bool
is_triple_pung blocks = list_any (has_triplet_in_each_suit blocks) every_rank

-- 20: at least three kongs
abbrev pub is_three_kongs : List HandBlock → Bool
is_three_kongs blocks = nat_le 3 (count_by is_kong_block blocks)

-- 21: four triplets
abbrev pub is_all_pungs : List HandBlock → Bool
is_all_pungs blocks = count_by is_triplet_or_kong blocks == 4

-- 22: at least three concealed triplets
abbrev pub is_three_concealed_pungs : List HandBlock → Bool
is_three_concealed_pungs blocks = nat_le 3 (count_by is_concealed_triplet blocks)
