-- The yaku of winds and dragons. The number before each is its number in the table of yaku (`Table.antt`).
use Rattle.std.specs.Prelude.{ℕ, Bool, false, ◌&&◌, ◌||◌, ◌==◌, List}
use Rattle.std.specs.List.{list_any, list_all}
use Rattle.riichi_hand.specs.declared.win.WinParts.{WinParts}
use Rattle.riichi_hand.specs.Win.{wind_kind}
use Rattle.riichi_blocks.specs.declared.hand_block.HandBlock.{HandBlock}
use Rattle.riichi_blocks.specs.declared.hand_block.HandBlock.TheVariants.{Pair}
use Rattle.riichi_blocks.specs.HandBlocks.{has_triplet}
use Rattle.riichi_blocks.specs.Kinds.{white, green, red, winds, dragons, is_wind, is_dragon}

-- 7: a triplet of White
abbrev pub is_white_dragon : List HandBlock → Bool
is_white_dragon blocks = has_triplet blocks white

-- 8: a triplet of Green
abbrev pub is_green_dragon : List HandBlock → Bool
is_green_dragon blocks = has_triplet blocks green

-- 9: a triplet of Red
abbrev pub is_red_dragon : List HandBlock → Bool
is_red_dragon blocks = has_triplet blocks red

-- 10: a triplet of the seat wind
abbrev pub is_seat_wind : List HandBlock → WinParts → Bool
is_seat_wind blocks parts = has_triplet blocks (wind_kind parts.seat)

-- 11: a triplet of the prevalent wind
abbrev pub is_prevalent_wind : List HandBlock → WinParts → Bool
is_prevalent_wind blocks parts = has_triplet blocks (wind_kind parts.round)

-- triplets of all these kinds
abbrev pub has_triplets : List HandBlock → List ℕ → Bool
has_triplets blocks kinds = list_all (has_triplet blocks) kinds

-- triplets of all these kinds but one
abbrev pub has_other_triplets : List HandBlock → List ℕ → ℕ → Bool
has_other_triplets blocks kinds last = list_all (λ kind. kind == last || has_triplet blocks kind) kinds

-- a pair of one of these kinds, and triplets of the others
abbrev pub is_last_of : (ℕ → Bool) → List ℕ → List HandBlock → HandBlock → Bool
is_last_of is_so kinds blocks (Pair kind) = is_so kind && has_other_triplets blocks kinds kind
is_last_of is_so kinds blocks other = false

abbrev pub is_last_dragon : List HandBlock → HandBlock → Bool
is_last_dragon = is_last_of is_dragon dragons

abbrev pub is_last_wind : List HandBlock → HandBlock → Bool
is_last_wind = is_last_of is_wind winds

-- 23: triplets of two dragons, a pair of the third
abbrev pub is_little_three_dragons : List HandBlock → Bool
is_little_three_dragons blocks = list_any (is_last_dragon blocks) blocks
