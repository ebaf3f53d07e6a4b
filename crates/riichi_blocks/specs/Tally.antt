-- What is tallied of blocks as they are pushed.
use Rattle.std.specs.Prelude.{ℕ, ◌≡◌, ◌*◌, ◌≤◌, Bool, nat_le, List, length, count_by, if◌then◌else◌}
use Rattle.std.specs.List.{list_all, list_any, sum_by}
use Rattle.riichi_tiles.specs.HeldKinds.{is_held}
use Rattle.riichi_blocks.specs.declared.hand_block.HandBlock.{HandBlock}
use Rattle.riichi_blocks.specs.declared.hand_block.HandBlock.TheVariants.{Run, Triplet, Kong, Pair}
use Rattle.riichi_blocks.specs.Kinds.{is_orphan}
use Rattle.riichi_blocks.specs.BlockKinds.{has_honour, has_orphan}
use Rattle.riichi_blocks.specs.HandBlocks.{is_run, is_run_from, is_triplet_or_kong, is_triplet_of, is_concealed_triplet, is_kong_block}

-- the kind that a block is named by
abbrev pub kind_of : HandBlock → ℕ
kind_of (Run low) = low
kind_of (Triplet kind concealed) = kind
kind_of (Kong kind concealed) = kind
kind_of (Pair kind) = kind

-- the fu of a set: a triplet of simples has 2, open; twice as many where it is concealed, and where it is of terminals or honours; a kong
-- four times as many
abbrev pub set_fu : HandBlock → ℕ
set_fu (Run low) = 0
set_fu (Triplet kind concealed) = 2 * (if concealed then 2 else 1) * (if is_orphan kind then 2 else 1)
set_fu (Kong kind concealed) = 4 * (2 * (if concealed then 2 else 1) * (if is_orphan kind then 2 else 1))
set_fu (Pair kind) = 0

-- the kinds with which runs begin, those with which two or more do, and those of triplets and kongs; how many runs, triplets, concealed
-- triplets and kongs there are; whether each block has a terminal or an honour, and whether some block is of honours; the fu of the sets
pub record IsTally (blocks : List HandBlock) (runs_from runs_again triplets_of runs triplets concealed kongs : ℕ) (outer honours : Bool) (fu : ℕ) : Type 0 where
  pub at_most_nine : length blocks ≤ 9
  pub runs_from_are : (kind : ℕ) → is_held runs_from kind ≡ list_any (is_run_from kind) blocks
  pub runs_again_are : (kind : ℕ) → is_held runs_again kind ≡ nat_le 2 (count_by (is_run_from kind) blocks)
  pub triplets_of_are : (kind : ℕ) → is_held triplets_of kind ≡ list_any (is_triplet_of kind) blocks
  pub runs_are : runs ≡ count_by is_run blocks
  pub triplets_are : triplets ≡ count_by is_triplet_or_kong blocks
  pub concealed_are : concealed ≡ count_by is_concealed_triplet blocks
  pub kongs_are : kongs ≡ count_by is_kong_block blocks
  pub outer_are : outer ≡ list_all has_orphan blocks
  pub honours_are : honours ≡ list_any has_honour blocks
  pub fu_are : fu ≡ sum_by set_fu blocks
  pub few_fu : fu ≤ 32 * length blocks
