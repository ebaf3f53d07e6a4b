use Rattle.std.proofs.Common.{◌≡◌, ◌-◌, false, length, take}
use Rattle.std.specs.List.{list_any}
use Rattle.riichi_hand.specs.Lines.{is_other_byte}
use Rattle.riichi_hand.proofs.line.bytes.blocks_have_other_byte.Given as goal

-- the bytes so far are printable
abbrev pub invariant-loop-place : goal.invariant-loop-place
invariant-loop-place l = list_any is_other_byte (take l.place l.line) ≡ false

abbrev pub decreases-loop-place : goal.decreases-loop-place
decreases-loop-place l = length l.line - l.place
