-- The rows of a hand's fu.
use Rattle.std.specs.Prelude.{ℕ, ◌==◌, List, [], ◌∷◌, ◌++◌, if◌then◌else◌}
use Rattle.std.specs.List.{sum_by, flat_map}
use Rattle.riichi_tiles.specs.declared.block.Block.{Block}
use Rattle.riichi_tiles.specs.declared.block.Block.TheVariants as block
use Rattle.riichi_hand.specs.declared.win.WinParts.{WinParts}
use Rattle.riichi_hand.specs.Win.{wind_kind}
use Rattle.riichi_split.specs.declared.reading.Reading.{Reading}
use Rattle.riichi_split.specs.declared.reading.Reading.TheVariants.{Standard, SevenPairs, Orphans}
use Rattle.riichi_blocks.specs.declared.hand_block.HandBlock.{HandBlock}
use Rattle.riichi_blocks.specs.declared.hand_block.HandBlock.TheVariants.{Run, Triplet, Kong, Pair}
use Rattle.riichi_blocks.specs.HandBlocks.{blocks_of}
use Rattle.riichi_blocks.specs.Kinds.{is_dragon}
use Rattle.riichi_blocks.specs.Pairs.{has_prevalent_fu}
use Rattle.riichi_blocks.specs.Waits.{is_closed_wait, is_edge_wait}
use Rattle.riichi_yaku.specs.Runs.{is_pinfu}
use Rattle.riichi_score.specs.Fu.{ron_fu, self_draw_fu, block_fu, open_fu, fu_sum, up_to_ten}
use Rattle.riichi_explain.specs.declared.fu.FuPart.{FuPart}
use Rattle.riichi_explain.specs.declared.fu.FuPart.TheVariants as part
use Rattle.riichi_explain.specs.declared.fu.FuRow.{FuRow}

-- a row, where the part earns any fu
abbrev pub earned : FuPart → ℕ → List FuRow
earned part fu = if fu == 0 then [] else record { part = part; fu = fu } ∷ []

-- a pair of dragons, of the seat wind, of the prevalent wind: 2 each, but for that of both winds where the rules give it 2 in all
abbrev pub pair_rows : WinParts → ℕ → List FuRow
pair_rows win kind =
    earned (part.DragonPair kind) (if is_dragon kind then 2 else 0)
    ++ earned (part.SeatWindPair kind) (if kind == wind_kind win.seat then 2 else 0)
    ++ earned (part.PrevalentWindPair kind) (if has_prevalent_fu win kind then 2 else 0)

-- the row of a triplet or a kong, in hand or called
abbrev pub set_rows : WinParts → HandBlock → List FuRow
set_rows win (Run low) = []
set_rows win (Triplet kind concealed) = earned (part.Triplet kind concealed) (block_fu win (Triplet kind concealed))
set_rows win (Kong kind concealed) = earned (part.Kong kind concealed) (block_fu win (Kong kind concealed))
set_rows win (Pair kind) = []

-- the rows of a block that is the pair
abbrev pub rows_if_pair : WinParts → HandBlock → List FuRow
rows_if_pair win (Run low) = []
rows_if_pair win (Triplet kind concealed) = []
rows_if_pair win (Kong kind concealed) = []
rows_if_pair win (Pair kind) = pair_rows win kind

-- the triplets and kongs, and then the pair
abbrev pub block_rows : WinParts → List HandBlock → List FuRow
block_rows win blocks = flat_map (set_rows win) blocks ++ flat_map (rows_if_pair win) blocks

-- a closed wait, an edge wait, a pair wait: 2
abbrev pub wait_rows : ℕ → Block → List FuRow
wait_rows winning (block.Run low) =
    earned part.ClosedWait (if is_closed_wait low winning then 2 else 0)
    ++ earned part.EdgeWait (if is_edge_wait low winning then 2 else 0)
wait_rows winning (block.Triplet kind) = []
wait_rows winning (block.Pair kind) = earned part.PairWait 2

-- the rows of sets and a pair, but for that of an open hand
abbrev pub plain_rows : List HandBlock → Reading → Block → WinParts → List FuRow
plain_rows blocks reading done win =
    earned part.Base 20
    ++ earned part.ConcealedRon (ron_fu win)
    ++ earned part.SelfDraw (self_draw_fu (is_pinfu blocks reading win) win)
    ++ block_rows win blocks
    ++ wait_rows win.winning done

-- every row of sets and a pair, in the order of the table
abbrev pub standard_rows : List HandBlock → Reading → Block → WinParts → List FuRow
standard_rows blocks reading done win =
    plain_rows blocks reading done win ++ earned part.OpenRon (open_fu win (fu_sum blocks reading done win))

abbrev pub rows_from : List HandBlock → Reading → WinParts → List FuRow
rows_from blocks (Standard sets pair done) win = standard_rows blocks (Standard sets pair done) done win
rows_from blocks SevenPairs win = earned part.SevenPairs 25
rows_from blocks Orphans win = []

-- the rows of a reading; thirteen orphans have none
unfoldable pub fu_rows : Reading → WinParts → List FuRow
fu_rows reading win = rows_from (blocks_of reading win) reading win

-- what rows add up to
abbrev pub fu_total : List FuRow → ℕ
fu_total rows = sum_by (λ row. row.fu) rows

-- the fu that rows give: those of sets and a pair are rounded up to the next ten
abbrev pub fu_from_rows : Reading → List FuRow → ℕ
fu_from_rows (Standard sets pair done) rows = up_to_ten (fu_total rows)
fu_from_rows SevenPairs rows = fu_total rows
fu_from_rows Orphans rows = fu_total rows
