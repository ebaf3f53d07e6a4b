use Rattle.std.proofs.Common.{◌≡◌, ◌≤◌, ◌*◌, sum, take}
use Rattle.riichi_split.proofs.suit_tiles.SuitTiles.total.Given as goal

abbrev pub invariant-loop-held : goal.invariant-loop-held
invariant-loop-held l = (l.total ≡ sum (take l.held-index l.held-items)) × (l.total ≤ 256 * l.held-index)
