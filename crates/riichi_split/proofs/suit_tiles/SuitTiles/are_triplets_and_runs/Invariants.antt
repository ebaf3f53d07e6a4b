use Rattle.riichi_split.proofs.SuitCuts.{IsCutTo}
use Rattle.riichi_split.proofs.suit_tiles.SuitTiles.are_triplets_and_runs.Given as goal

abbrev pub invariant-loop-held : goal.invariant-loop-held
invariant-loop-held l = IsCutTo l.self.has_runs l.held-items l.held-index l.one l.two
