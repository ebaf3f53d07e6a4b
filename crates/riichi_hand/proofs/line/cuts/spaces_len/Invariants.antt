use Rattle.std.proofs.Common.{◌≡◌, ◌-◌, ◌≤◌, length, take, true, nat_eq}
use Rattle.std.specs.List.{list_all}
use Rattle.riichi_hand.proofs.line.cuts.spaces_len.Given as goal

-- spaces so far
abbrev pub invariant-loop-len : goal.invariant-loop-len
invariant-loop-len l = (l.len ≤ length l.text) × (list_all (λ byte. nat_eq byte 32) (take l.len l.text) ≡ true)

abbrev pub decreases-loop-len : goal.decreases-loop-len
decreases-loop-len l = length l.text - l.len
