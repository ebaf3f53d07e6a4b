use Rattle.std.proofs.Common.{◌≡◌, ◌+◌, ◌-◌, length, drop}
use Rattle.riichi_split.specs.Dones.{dones, split_blocks}
use Rattle.riichi_split.proofs.done.next_done.Given as goal

abbrev pub invariant-loop-place : goal.invariant-loop-place
invariant-loop-place l = dones l.winning (drop l.place (split_blocks l.split)) ≡ dones l.winning (drop l.initial.place (split_blocks l.split))

abbrev pub decreases-loop-place : goal.decreases-loop-place
decreases-loop-place l = length l.split.sets + 1 - l.place
