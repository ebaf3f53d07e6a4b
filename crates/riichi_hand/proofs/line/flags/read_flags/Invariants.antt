use Rattle.std.proofs.Common.{◌≡◌, ℕ, List, ◌++◌, true, length}
use Rattle.riichi_hand.specs.Words.{items_of}
use Rattle.riichi_hand.specs.Values.{are_flags, flags_in}
use Rattle.riichi_hand.proofs.line.flags.read_flags.Given as goal

-- the flags of the items so far
abbrev pub invariant-loop-item : goal.invariant-loop-item
invariant-loop-item l = (items : List (List ℕ)) × (items_of l.fn.value ≡ items ++ items_of l.rest) × (are_flags items ≡ true) × (l.flags ≡ flags_in items)

abbrev pub decreases-loop-item : goal.decreases-loop-item
decreases-loop-item l = length l.rest
