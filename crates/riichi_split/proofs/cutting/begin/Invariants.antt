use Rattle.std.proofs.Common.{◌≡◌, ◌++◌, replicate}
use Rattle.riichi_tiles.specs.declared.block.Block.TheVariants.{Run, Triplet}
use Rattle.riichi_split.proofs.cutting.begin.Given as goal

abbrev pub invariant-loop-triplet : goal.invariant-loop-triplet
invariant-loop-triplet l = l.sets ≡ l.initial.sets ++ replicate l.triplet (Triplet l.kind)

abbrev pub invariant-loop-run : goal.invariant-loop-run
invariant-loop-run l = l.sets ≡ l.initial.sets ++ replicate l.run (Run l.kind)
