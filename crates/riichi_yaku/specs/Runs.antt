-- The yaku of runs. The number before each is its number in the table of yaku (`Table.antt`).
use Rattle.std.specs.Prelude.{ℕ, ◌+◌, ◌%◌, Bool, not, ◌&&◌, ◌==◌, nat_le, List, [], ◌∷◌, count_by}
use Rattle.std.specs.List.{list_any, list_all}
use Rattle.riichi_tiles.specs.declared.suit.Suit.{Suit}
use Rattle.riichi_tiles.specs.Kinds.{first_of}
use Rattle.riichi_tiles.specs.Melds.{are_concealed}
use Rattle.riichi_hand.specs.declared.win.WinParts.{WinParts}
use Rattle.riichi_split.specs.declared.reading.Reading.{Reading}
use Rattle.riichi_blocks.specs.declared.hand_block.HandBlock.{HandBlock}
use Rattle.riichi_blocks.specs.HandBlocks.{is_run, has_run, runs_equal_to}
use Rattle.riichi_blocks.specs.Kinds.{number_suits, every_rank}
use Rattle.riichi_blocks.specs.Pairs.{is_plain_pair}
use Rattle.riichi_blocks.specs.Waits.{has_two_sided_wait}

-- four runs
abbrev pub are_four_runs : List HandBlock → Bool
are_four_runs blocks = count_by is_run blocks == 4

-- 4: a concealed hand; four runs, a pair that earns no fu, a two-sided wait
abbrev pub is_pinfu : List HandBlock → Reading → WinParts → Bool
is_pinfu blocks reading parts =
    are_concealed parts.melds && are_four_runs blocks && list_any (is_plain_pair parts) blocks && has_two_sided_wait reading parts.winning

-- two equal runs
abbrev pub has_equal_runs : List HandBlock → Bool
has_equal_runs blocks = list_any (λ block. nat_le 2 (runs_equal_to blocks block)) blocks

-- each run is there twice, or four times
abbrev pub are_runs_paired : List HandBlock → Bool
are_runs_paired blocks = list_all (λ block. runs_equal_to blocks block % 2 == 0) blocks

-- 27: a concealed hand; the four sets are runs that make two pairs of equal runs
abbrev pub is_twice_pure_double_chow : List HandBlock → WinParts → Bool
is_twice_pure_double_chow blocks parts = are_concealed parts.melds && are_four_runs blocks && are_runs_paired blocks

-- 5: a concealed hand; two equal runs, and not number 27
abbrev pub is_pure_double_chow : List HandBlock → WinParts → Bool
is_pure_double_chow blocks parts = are_concealed parts.melds && has_equal_runs blocks && not (is_twice_pure_double_chow blocks parts)

-- runs from this rank on in all three suits
abbrev pub has_run_in_each_suit : List HandBlock → ℕ → Bool
has_run_in_each_suit blocks rank = list_all (λ suit. has_run blocks (first_of suit + rank)) number_suits

-- 15: for some number, a run from it on in each suit
abbrev pub is_mixed_triple_chow : List HandBlock → Bool
is_mixed_triple_chow blocks = list_any (has_run_in_each_suit blocks) every_rank

-- runs 123, 456, 789 of this suit, which begin at the ranks 0, 3 and 6
abbrev pub has_straight : List HandBlock → Suit → Bool
has_straight blocks suit = list_all (λ rank. has_run blocks (first_of suit + rank)) (0 ∷ 3 ∷ 6 ∷ [])

-- 16: for some suit, runs 123, 456, 789 of it
abbrev pub is_pure_straight : List HandBlock → Bool
is_pure_straight blocks = list_any (has_straight blocks) number_suits
