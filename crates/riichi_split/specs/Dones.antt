-- The different blocks of a split that the winning tile completes.
use Rattle.std.specs.Prelude.{ℕ, Bool, false, ◌&&◌, ◌||◌, not, Option, Some, None, List, [], ◌∷◌, ◌++◌, map, if◌then◌else◌, nat_lt, ◌==◌}
use Rattle.riichi_tiles.specs.declared.block.Block.{Block}
use Rattle.riichi_tiles.specs.declared.block.Block.TheVariants.{Run, Triplet, Pair}
use Rattle.riichi_tiles.specs.Blocks.{copies}
use Rattle.riichi_split.specs.declared.split.Split.{Split}
use Rattle.riichi_split.specs.declared.reading.Reading.{Reading}
use Rattle.riichi_split.specs.declared.reading.Reading.TheVariants.{Standard}

-- the blocks are equal
abbrev pub same_block : Block → Block → Bool
same_block (Run low) (Run other) = low == other
same_block (Triplet kind) (Triplet other) = kind == other
same_block (Pair kind) (Pair other) = kind == other
same_block block other = false

abbrev pub is_block_among : Block → List Block → Bool
is_block_among block [] = false
is_block_among block (first ∷ blocks) = same_block block first || is_block_among block blocks

-- the different blocks that the winning tile completes: each that has it, where it comes last
abbrev pub dones : ℕ → List Block → List Block
dones winning [] = []
dones winning (block ∷ blocks) =
    if nat_lt 0 (copies block winning) && not (is_block_among block blocks) then block ∷ dones winning blocks else dones winning blocks

-- a block, if the winning tile completes it and it does not come again
abbrev pub done_unless_again : Bool → Block → ℕ → Option Block
done_unless_again again block winning = if nat_lt 0 (copies block winning) && not again then Some block else None

-- the first block, if it is one of the dones
abbrev pub done_first : ℕ → List Block → Option Block
done_first winning [] = None
done_first winning (block ∷ blocks) = done_unless_again (is_block_among block blocks) block winning

-- the sets and then the pair
abbrev pub split_blocks : Split → List Block
split_blocks split = split.sets ++ Pair split.pair ∷ []

-- the reading of a split with that block completed
abbrev pub read_with : Split → Block → Reading
read_with split done = Standard split.sets split.pair done

-- the readings of a split
abbrev pub readings_with : ℕ → Split → List Reading
readings_with winning split = map (read_with split) (dones winning (split_blocks split))

-- a reading, where the test holds
abbrev pub flagged : Bool → Reading → List Reading
flagged holds reading = if holds then reading ∷ [] else []
