-- An upper end by the hand and the turns that are left. An accepted tile is kept for a best discard, or thrown as if it stayed live,
-- whichever has more draws. No play has more than all draws, so the end is no higher than these.
use Rattle.std.specs.Prelude.{ℕ, zero, suc, ◌+◌, ◌-◌, ◌*◌, max, min, if◌then◌else◌, sum_by}
use Rattle.riichi_hand.specs.HandParts.{ShapeParts}
use Rattle.riichi_shape.specs.LiveCopies.{live_in}
use Rattle.riichi_deeper.specs.Drawn.{parts_with}
use Rattle.riichi_chances.specs.Counted.{accepts, counted_with}
use Rattle.riichi_chances.specs.Draws.{all_draws, is_there}

-- once a tile of an accepted kind has come
abbrev pub most_with : ℕ → ℕ → ℕ → (ShapeParts → ℕ) → ShapeParts → ℕ → ℕ
most_with goal unseen left value parts kind = max (counted_with goal unseen left value (parts_with parts kind)) (value parts)

-- of the draws that begin with an accepted kind
abbrev pub most_by : ℕ → ℕ → ℕ → (ShapeParts → ℕ) → ShapeParts → ℕ × ℕ → ℕ
most_by goal unseen left value parts accepted = accepted.1 * most_with goal unseen left value parts accepted.0

-- of those that begin with any
unfoldable pub accepted_most : ℕ → ℕ → ℕ → (ShapeParts → ℕ) → ShapeParts → ℕ
accepted_most goal unseen left value parts = sum_by (most_by goal unseen left value parts) (accepts parts)

unfoldable pub counted_most : ℕ → ShapeParts → ℕ → ℕ → ℕ
counted_most goal parts unseen zero = if is_there goal parts then 1 else 0
counted_most goal parts unseen (suc left) =
    if is_there goal parts then all_draws unseen (suc left)
    else (unseen - live_in (accepts parts)) * counted_most goal parts (unseen - 1) left + accepted_most goal (unseen - 1) left (λ rest. counted_most goal rest (unseen - 1) left) parts

abbrev pub most_of_all : ℕ → ShapeParts → ℕ → ℕ → ℕ
most_of_all goal parts unseen turns = min (counted_most goal parts unseen turns) (all_draws unseen turns)
