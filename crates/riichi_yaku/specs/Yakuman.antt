-- The yakuman. 29, thirteen orphans, is the reading itself. The number before each is its number in the table of yaku (`Table.antt`).
use Rattle.std.specs.Prelude.{ℕ, Bool, not, ◌&&◌, ◌==◌, nat_le, List, length, count_by, slice_index, if◌then◌else◌}
use Rattle.std.specs.List.{list_any, list_all, range_with_len}
use Rattle.riichi_tiles.specs.Melds.{every_kind}
use Rattle.riichi_tiles.specs.declared.suit.Suit.{Suit}
use Rattle.riichi_hand.specs.declared.win.WinParts.{WinParts}
use Rattle.riichi_split.specs.declared.reading.Reading.{Reading}
use Rattle.riichi_blocks.specs.declared.hand_block.HandBlock.{HandBlock}
use Rattle.riichi_blocks.specs.HandBlocks.{is_standard, is_thirteen_orphans, is_concealed_triplet, is_kong_block}
use Rattle.riichi_hand.specs.Win.{is_dealer, is_ron}
use Rattle.riichi_yaku.specs.Honours.{has_triplets, is_last_wind}
use Rattle.riichi_blocks.specs.Held.{every}
use Rattle.riichi_blocks.specs.Kinds.{winds, dragons, is_honour, is_terminal, is_of_suit, is_green_tile, number_suits}

-- the copies that nine gates has at least: three 1, three 9 and one of each 2 to 8, whatever the wait
abbrev pub gate_copies : Suit → ℕ → ℕ
gate_copies suit kind = if is_of_suit suit kind then (if is_terminal kind then 3 else 1) else 0

-- at least three 1, three 9 and one of each 2 to 8 of this suit
abbrev pub has_gates : List ℕ → Suit → Bool
has_gates tiles suit = list_all (λ kind. nat_le (gate_copies suit kind) (slice_index tiles kind)) every_kind

-- every tile of this suit, with the gates
abbrev pub has_suit_with_gates : List ℕ → Suit → Bool
has_suit_with_gates tiles suit = every (is_of_suit suit) tiles && has_gates tiles suit

-- 30: a standard reading and no meld; every tile of one suit; at least three 1, three 9 and one of each 2 to 8, whatever the wait
abbrev pub is_nine_gates : Reading → List ℕ → WinParts → Bool
is_nine_gates reading tiles parts = is_standard reading && (length parts.melds == 0) && list_any (has_suit_with_gates tiles) number_suits

-- 31: four concealed triplets
abbrev pub is_four_concealed_pungs : List HandBlock → Bool
is_four_concealed_pungs blocks = count_by is_concealed_triplet blocks == 4

-- 32: triplets of all three dragons
abbrev pub is_big_three_dragons : List HandBlock → Bool
is_big_three_dragons blocks = has_triplets blocks dragons

-- 33: triplets of three winds, a pair of the fourth
abbrev pub is_little_four_winds : List HandBlock → Bool
is_little_four_winds blocks = list_any (is_last_wind blocks) blocks

-- 34: triplets of all four winds
abbrev pub is_big_four_winds : List HandBlock → Bool
is_big_four_winds blocks = has_triplets blocks winds

-- 35: every tile is an honour; a standard reading or seven pairs
abbrev pub is_all_honours : Reading → List ℕ → Bool
is_all_honours reading tiles = not (is_thirteen_orphans reading) && every is_honour tiles

-- 36: every tile is a terminal; a standard reading
abbrev pub is_all_terminals : Reading → List ℕ → Bool
is_all_terminals reading tiles = is_standard reading && every is_terminal tiles

-- 37: every tile is one of 2s 3s 4s 6s 8s 6z; a standard reading
abbrev pub is_all_green : Reading → List ℕ → Bool
is_all_green reading tiles = is_standard reading && every is_green_tile tiles

-- 38: four kongs
abbrev pub is_four_kongs : List HandBlock → Bool
is_four_kongs blocks = count_by is_kong_block blocks == 4

-- 39: a win on the first draw by the dealer; any reading
abbrev pub is_blessing_of_heaven : WinParts → Bool
is_blessing_of_heaven parts = parts.flags.first && is_dealer parts.seat

-- 40: a win on the first draw by another seat; any reading
abbrev pub is_blessing_of_earth : WinParts → Bool
is_blessing_of_earth parts = parts.flags.first && not (is_dealer parts.seat) && not (is_ron parts.by)

-- 41: a win by ron before the own first draw, which a record has only under rules with it and where another seat than the dealer's
-- wins; any reading
abbrev pub is_blessing_of_man : WinParts → Bool
is_blessing_of_man parts = parts.flags.first && is_ron parts.by
