-- The yaku whose every set and pair has a terminal or an honour. The number before each is its number in the table of yaku (`Table.antt`).
use Rattle.std.specs.Prelude.{Bool, not, ◌&&◌, List}
use Rattle.std.specs.List.{list_any, list_all}
use Rattle.riichi_blocks.specs.declared.hand_block.HandBlock.{HandBlock}
use Rattle.riichi_blocks.specs.HandBlocks.{is_run}
use Rattle.riichi_blocks.specs.BlockKinds.{has_orphan, has_terminal, has_honour}

-- 17: each set and the pair has a terminal or honour; at least one run; at least one honour
abbrev pub is_outside_hand : List HandBlock → Bool
is_outside_hand blocks = list_all has_orphan blocks && list_any is_run blocks && list_any has_honour blocks

-- 26: each set and the pair has a terminal; no honour; at least one run
abbrev pub is_terminals_in_all_sets : List HandBlock → Bool
is_terminals_in_all_sets blocks = list_all has_terminal blocks && not (list_any has_honour blocks) && list_any is_run blocks
