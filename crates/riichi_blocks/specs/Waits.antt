-- The wait, read from the block that the winning tile completes.
use Rattle.std.specs.Prelude.{ℕ, ◌+◌, ◌%◌, Bool, false, not, ◌&&◌, ◌||◌, ◌==◌, if◌then◌else◌}
use Rattle.riichi_tiles.specs.declared.block.Block.{Block}
use Rattle.riichi_tiles.specs.declared.block.Block.TheVariants.{Run, Triplet, Pair}
use Rattle.riichi_split.specs.declared.reading.Reading.{Reading}
use Rattle.riichi_split.specs.declared.reading.Reading.TheVariants.{Standard}

-- the winning tile is the middle of the run
abbrev pub is_closed_wait : ℕ → ℕ → Bool
is_closed_wait low winning = winning == low + 1

-- the winning tile is the 3 of a run 123 or the 7 of a run 789
abbrev pub is_edge_wait : ℕ → ℕ → Bool
is_edge_wait low winning = winning == low + 2 && low % 9 == 0 || winning == low && low % 9 == 6

-- a run completed in any other way
abbrev pub is_two_sided : ℕ → Block → Bool
is_two_sided winning (Run low) = not (is_closed_wait low winning || is_edge_wait low winning)
is_two_sided winning other = false

abbrev pub has_two_sided_wait : Reading → ℕ → Bool
has_two_sided_wait (Standard sets pair done) winning = is_two_sided winning done
has_two_sided_wait other winning = false

-- The fu of the wait: an edge wait, a closed wait or a pair wait 2.
abbrev pub wait_fu : ℕ → Block → ℕ
wait_fu winning (Run low) = if is_closed_wait low winning || is_edge_wait low winning then 2 else 0
wait_fu winning (Triplet kind) = 0
wait_fu winning (Pair kind) = 2
