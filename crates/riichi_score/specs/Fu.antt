-- The fu of a reading, row by row.
use Rattle.std.specs.Prelude.{ℕ, ◌≡◌, ◌+◌, ◌*◌, ◌/◌, Bool, not, ◌&&◌, ◌||◌, ◌==◌, List, length, if◌then◌else◌}
use Rattle.std.specs.List.{sum_by}
use Rattle.riichi_tiles.specs.Melds.{are_concealed}
use Rattle.riichi_tiles.specs.declared.block.Block.{Block}
use Rattle.riichi_hand.specs.Win.{is_ron}
use Rattle.riichi_hand.specs.declared.win.WinParts.{WinParts}
use Rattle.riichi_split.specs.declared.reading.Reading.{Reading}
use Rattle.riichi_split.specs.declared.reading.Reading.TheVariants.{Standard, SevenPairs, Orphans}
use Rattle.riichi_blocks.specs.declared.hand_block.HandBlock.{HandBlock}
use Rattle.riichi_blocks.specs.declared.hand_block.HandBlock.TheVariants.{Run, Triplet, Kong, Pair}
use Rattle.riichi_blocks.specs.HandBlocks.{blocks_of}
use Rattle.riichi_blocks.specs.Pairs.{pair_fu}
use Rattle.riichi_blocks.specs.Kinds.{is_orphan}
use Rattle.riichi_yaku.specs.Runs.{is_pinfu}
use Rattle.riichi_blocks.specs.Waits.{wait_fu}
use Rattle.riichi_hand.specs.Rules.{is_on}
use Rattle.riichi_hand.specs.declared.switch.Switch.TheVariants.{KongDrawFu, OpenPinfuFu}

-- concealed hand won by ron: 10
abbrev pub ron_fu : WinParts → ℕ
ron_fu win = if are_concealed win.melds && is_ron win.by then 10 else 0

-- a draw after a kong has no fu, where the rules say so
abbrev pub is_bare_draw : WinParts → Bool
is_bare_draw win = win.flags.rinshan && not (is_on KongDrawFu win.rules)

-- a self-draw, unless the hand has pinfu: 2
abbrev pub self_draw_fu : Bool → WinParts → ℕ
self_draw_fu pinfu win = if is_ron win.by || pinfu || is_bare_draw win then 0 else 2

-- a triplet of simples: open 2, concealed 4; of terminals or honours 4, 8
abbrev pub triplet_fu : ℕ → Bool → ℕ
triplet_fu kind concealed = (if is_orphan kind then 4 else 2) * (if concealed then 2 else 1)

-- a kong earns four times what a triplet does: of simples 8, concealed 16; of terminals or honours 16, 32. A run earns none
abbrev pub block_fu : WinParts → HandBlock → ℕ
block_fu win (Run low) = 0
block_fu win (Triplet kind concealed) = triplet_fu kind concealed
block_fu win (Kong kind concealed) = 4 * triplet_fu kind concealed
block_fu win (Pair kind) = pair_fu win kind

-- the sum of the rows of a standard reading, which has 20 by itself
abbrev pub fu_sum : List HandBlock → Reading → Block → WinParts → ℕ
fu_sum blocks reading done win =
    20 + ron_fu win + self_draw_fu (is_pinfu blocks reading win) win + sum_by (block_fu win) blocks + wait_fu win.winning done

-- an open hand won by ron whose sum is 20: 10 more, where the rules say so
abbrev pub open_fu : WinParts → ℕ → ℕ
open_fu win sum = if not (are_concealed win.melds) && is_ron win.by && (sum == 20) && is_on OpenPinfuFu win.rules then 10 else 0

-- rounded up to the next ten
abbrev pub up_to_ten : ℕ → ℕ
up_to_ten sum = (sum + 9) / 10 * 10

abbrev pub standard_fu : List HandBlock → Reading → Block → WinParts → ℕ
standard_fu blocks reading done win =
    let sum = fu_sum blocks reading done win in
    up_to_ten (sum + open_fu win sum)

-- the fu of a reading: seven pairs 25, which is not rounded; thirteen orphans 0, as a yakuman counts no fu
abbrev pub fu_from : List HandBlock → Reading → WinParts → ℕ
fu_from blocks (Standard sets pair done) win = standard_fu blocks (Standard sets pair done) done win
fu_from blocks SevenPairs win = 25
fu_from blocks Orphans win = 0

unfoldable pub fu_of : Reading → WinParts → ℕ
fu_of reading win = fu_from (blocks_of reading win) reading win

-- the sets and the melds are four, as in each reading of the hand
abbrev pub HasFourSets : Reading → WinParts → Type 0
HasFourSets (Standard sets pair done) win = length sets + length win.melds ≡ 4
HasFourSets SevenPairs win = Unit {0}
HasFourSets Orphans win = Unit {0}
