-- The blocks of a whole hand, melds included, and words on them.
use Rattle.std.specs.Prelude.{ℕ, Bool, true, false, not, List, [], ◌∷◌, ◌++◌, map, count_by, ◌==◌, ◌&&◌}
use Rattle.std.specs.List.{list_any}
use Rattle.riichi_tiles.specs.declared.meld.Meld.{Meld}
use Rattle.riichi_tiles.specs.declared.meld.Meld.TheVariants.{Chi, Pon, Kan, Ankan}
use Rattle.riichi_tiles.specs.declared.block.Block.{Block}
use Rattle.riichi_tiles.specs.declared.block.Block.TheVariants as block
use Rattle.riichi_hand.specs.declared.win.By.{By}
use Rattle.riichi_hand.specs.declared.win.WinParts.{WinParts}
use Rattle.riichi_hand.specs.Win.{is_ron}
use Rattle.riichi_split.specs.declared.reading.Reading.{Reading}
use Rattle.riichi_split.specs.declared.reading.Reading.TheVariants.{Standard, SevenPairs, Orphans}
use Rattle.riichi_blocks.specs.declared.hand_block.HandBlock.{HandBlock}
use Rattle.riichi_blocks.specs.declared.hand_block.HandBlock.TheVariants.{Run, Triplet, Kong, Pair}

abbrev pub is_this_triplet : ℕ → Block → Bool
is_this_triplet kind (block.Triplet held) = held == kind
is_this_triplet kind other = false

-- a triplet in hand is concealed unless the winning tile completes it by ron
abbrev pub of_set : By → Block → Block → HandBlock
of_set by done (block.Run low) = Run low
of_set by done (block.Triplet kind) = Triplet kind (not (is_ron by && is_this_triplet kind done))
of_set by done (block.Pair kind) = Pair kind

abbrev pub of_meld : Meld → HandBlock
of_meld (Chi low) = Run low
of_meld (Pon kind) = Triplet kind false
of_meld (Kan kind) = Kong kind false
of_meld (Ankan kind) = Kong kind true

-- the sets in hand, the pair and the melds of a standard reading; seven pairs and thirteen orphans have no blocks, so that no yaku of sets holds of them
abbrev pub blocks_of : Reading → WinParts → List HandBlock
blocks_of (Standard sets pair done) parts = map (of_set parts.by done) sets ++ Pair pair ∷ map of_meld parts.melds
blocks_of other parts = []

abbrev pub is_standard : Reading → Bool
is_standard (Standard sets pair done) = true
is_standard other = false

abbrev pub is_seven_pairs : Reading → Bool
is_seven_pairs SevenPairs = true
is_seven_pairs other = false

abbrev pub is_thirteen_orphans : Reading → Bool
is_thirteen_orphans Orphans = true
is_thirteen_orphans other = false

-- ---- words on a block; a triplet is a triplet or a kong

abbrev pub is_run : HandBlock → Bool
is_run (Run low) = true
is_run other = false

abbrev pub is_run_from : ℕ → HandBlock → Bool
is_run_from low (Run held) = held == low
is_run_from low other = false

abbrev pub is_triplet_or_kong : HandBlock → Bool
is_triplet_or_kong (Triplet kind concealed) = true
is_triplet_or_kong (Kong kind concealed) = true
is_triplet_or_kong other = false

abbrev pub is_triplet_of : ℕ → HandBlock → Bool
is_triplet_of kind (Triplet held concealed) = held == kind
is_triplet_of kind (Kong held concealed) = held == kind
is_triplet_of kind other = false

abbrev pub is_concealed_triplet : HandBlock → Bool
is_concealed_triplet (Triplet kind concealed) = concealed
is_concealed_triplet (Kong kind concealed) = concealed
is_concealed_triplet other = false

abbrev pub is_kong_block : HandBlock → Bool
is_kong_block (Kong kind concealed) = true
is_kong_block other = false

-- ---- words on the blocks

abbrev pub has_run : List HandBlock → ℕ → Bool
has_run blocks low = list_any (is_run_from low) blocks

abbrev pub has_triplet : List HandBlock → ℕ → Bool
has_triplet blocks kind = list_any (is_triplet_of kind) blocks

-- how many blocks are the run that this one is; none where it is no run
abbrev pub runs_equal_to : List HandBlock → HandBlock → ℕ
runs_equal_to blocks (Run low) = count_by (is_run_from low) blocks
runs_equal_to blocks other = 0
