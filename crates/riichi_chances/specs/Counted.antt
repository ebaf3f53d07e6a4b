-- The same number by the hand, the turns that are left and how many tiles are unseen. What was thrown on the way is not looked
-- at: it is accepted no more, so of the accepted kinds the copies are live that were so at first, but for those that the hand holds.
use Rattle.std.specs.Prelude.{ℕ, zero, suc, ◌+◌, ◌-◌, ◌*◌, if◌then◌else◌, List, filter, sum_by}
use Rattle.riichi_hand.specs.HandParts.{ShapeParts}
use Rattle.riichi_tiles.specs.Melds.{every_kind}
use Rattle.riichi_shape.specs.Accepted.{accepted_of, without_one}
use Rattle.riichi_shape.specs.Discards.{is_discard}
use Rattle.riichi_shape.specs.LiveCopies.{live_in}
use Rattle.riichi_deeper.specs.Drawn.{parts_with}
use Rattle.riichi_chances.specs.Draws.{all_draws, greatest, is_there}

-- what the hand accepts, with the live copies
abbrev pub accepts : ShapeParts → List (ℕ × ℕ)
accepts parts = accepted_of parts.tiles parts.melds parts.seen

-- the hand without a tile of the kind
abbrev pub parts_less : ShapeParts → ℕ → ShapeParts
parts_less drawn kind = record { tiles = without_one drawn.tiles kind; melds = drawn.melds; seen = drawn.seen }

-- the greatest number that a best discard of fourteen tiles leaves
unfoldable pub counted_rest : (ShapeParts → ℕ) → ShapeParts → ℕ
counted_rest value drawn = greatest (λ kind. value (parts_less drawn kind)) (filter (is_discard drawn.tiles drawn.melds) every_kind)

-- once a tile has come: a reward where the fourteen tiles are near enough, else the greatest number that a best discard leaves
abbrev pub counted_behind : ℕ → ℕ → (ShapeParts → ℕ) → ShapeParts → ℕ
counted_behind goal reward value drawn = if is_there goal drawn then reward else counted_rest value drawn

-- the number of a hand of fourteen tiles before its discard
unfoldable pub counted_with : ℕ → ℕ → ℕ → (ShapeParts → ℕ) → ShapeParts → ℕ
counted_with goal unseen left value drawn = counted_behind goal (all_draws unseen left) value drawn

-- of the draws that begin with an accepted kind
abbrev pub counted_by : ℕ → ℕ → ℕ → (ShapeParts → ℕ) → ShapeParts → ℕ × ℕ → ℕ
counted_by goal unseen left value parts accepted = accepted.1 * counted_with goal unseen left value (parts_with parts accepted.0)

-- of those that begin with any
unfoldable pub accepted_draws : ℕ → ℕ → ℕ → (ShapeParts → ℕ) → ShapeParts → ℕ
accepted_draws goal unseen left value parts = sum_by (counted_by goal unseen left value parts) (accepts parts)

unfoldable pub counted_draws : ℕ → ShapeParts → ℕ → ℕ → ℕ
counted_draws goal parts unseen zero = if is_there goal parts then 1 else 0
counted_draws goal parts unseen (suc left) =
    if is_there goal parts then all_draws unseen (suc left)
    else (unseen - live_in (accepts parts)) * counted_draws goal parts (unseen - 1) left + accepted_draws goal (unseen - 1) left (λ rest. counted_draws goal rest (unseen - 1) left) parts
