use Rattle.std.proofs.Common.{◌≡◌, ◌≤◌, length}
use Rattle.riichi_game_sheet.specs.Cells.{front_within}
use Rattle.riichi_game_sheet.proofs.cells.front.Given as goal

-- no longer beginning fits
abbrev pub invariant-loop-len : goal.invariant-loop-len
invariant-loop-len l = (front_within l.columns l.text l.len ≡ front_within l.columns l.text (length l.text)) × (l.len ≤ length l.text)

abbrev pub decreases-loop-len : goal.decreases-loop-len
decreases-loop-len l = l.len
