use Rattle.std.proofs.Common.{◌≡◌, ℕ, List, ◌++◌, Some, length}
use Rattle.riichi_hand.specs.Words.{items_of}
use Rattle.riichi_hand.specs.Values.{melds_of_items}
use Rattle.riichi_hand.proofs.line.open.read_melds.Given as goal

-- the melds of the items so far
abbrev pub invariant-loop-item : goal.invariant-loop-item
invariant-loop-item l = (items : List (List ℕ)) × (items_of l.fn.value ≡ items ++ items_of l.rest) × (Some l.melds ≡ melds_of_items items)

abbrev pub decreases-loop-item : goal.decreases-loop-item
decreases-loop-item l = length l.rest
