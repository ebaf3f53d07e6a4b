-- The same points by the hand, the turns that are left and how many tiles are unseen. What was thrown on the way is not looked at: it is
-- accepted no more.
use Rattle.std.specs.Prelude.{ℕ, zero, suc, ◌+◌, ◌-◌, ◌*◌, sum_by}
use Rattle.riichi_hand.specs.HandParts.{ShapeParts}
use Rattle.riichi_shape.specs.LiveCopies.{live_in}
use Rattle.riichi_deeper.specs.Drawn.{parts_with}
use Rattle.riichi_chances.specs.Counted.{accepts, counted_behind}
use Rattle.riichi_chances.specs.Draws.{all_draws}
use Rattle.riichi_worth.specs.Prizes.{prize_of}
use Rattle.riichi_worth.specs.declared.stakes.Stakes.{Stakes}

-- once a tile of an accepted kind has come
abbrev pub points_with : Stakes → ℕ → ℕ → (ShapeParts → ℕ) → ShapeParts → ℕ → ℕ
points_with stakes unseen left value parts kind = counted_behind 0 (prize_of stakes parts.tiles parts.melds kind * all_draws unseen left) value (parts_with parts kind)

-- of the draws that begin with an accepted kind
abbrev pub points_by : Stakes → ℕ → ℕ → (ShapeParts → ℕ) → ShapeParts → ℕ × ℕ → ℕ
points_by stakes unseen left value parts accepted = accepted.1 * points_with stakes unseen left value parts accepted.0

unfoldable pub counted_points : Stakes → ShapeParts → ℕ → ℕ → ℕ
counted_points stakes parts unseen zero = 0
counted_points stakes parts unseen (suc left) =
    (unseen - live_in (accepts parts)) * counted_points stakes parts (unseen - 1) left
    + sum_by (points_by stakes (unseen - 1) left (λ rest. counted_points stakes rest (unseen - 1) left) parts) (accepts parts)

-- the points that the draws of a ready hand's kinds bring, each as often as it is live
abbrev pub prize_times : Stakes → ShapeParts → ℕ × ℕ → ℕ
prize_times stakes parts accepted = accepted.1 * prize_of stakes parts.tiles parts.melds accepted.0

unfoldable pub prizes_of : Stakes → ShapeParts → ℕ
prizes_of stakes parts = sum_by (prize_times stakes parts) (accepts parts)
