-- What stands beyond the next step of a hand: after each tile that brings it nearer, and the best discard then.
use Rattle.std.specs.Prelude.{ℕ, ◌*◌, nat_le, nat_lt, max, if◌then◌else◌, List, [], ◌∷◌, sum_by, Option, Some, None}
use Rattle.riichi_hand.specs.HandParts.{ShapeParts}
use Rattle.riichi_shape.specs.Accepted.{accepted_of}
use Rattle.riichi_shape.specs.Discards.{discards_of, live_with}
use Rattle.riichi_shape.specs.EveryWinning.{distance_of}
use Rattle.riichi_shape.specs.declared.discard.Discard.{Discard}
use Rattle.riichi_deeper.specs.Drawn.{parts_with, parts_without}
use Rattle.riichi_deeper.specs.declared.outlook.Outlook.{Outlook}

-- the most live copies that any of some discards leaves
abbrev pub most_live : List Discard → ℕ
most_live [] = 0
most_live (discard ∷ rest) = max (live_with discard) (most_live rest)

-- the most live copies that a best discard of fourteen tiles leaves
unfoldable pub best_left : ShapeParts → ℕ
best_left parts = most_live (discards_of parts.tiles parts.melds parts.seen)

-- the same once a tile of the kind has come to the hand
abbrev pub left_after : ShapeParts → ℕ → ℕ
left_after parts kind = best_left (parts_with parts kind)

-- over the accepted kinds, the sum of the live copies times those that are then left
abbrev pub second_by : ShapeParts → ℕ × ℕ → ℕ
second_by parts accepted = accepted.1 * left_after parts accepted.0

unfoldable pub second_of : ShapeParts → ℕ
second_of parts = sum_by (second_by parts) (accepted_of parts.tiles parts.melds parts.seen)

-- over the accepted kinds after which at least five are left, the sum of the live copies
abbrev pub good_by : ShapeParts → ℕ × ℕ → ℕ
good_by parts accepted = if nat_le 5 (left_after parts accepted.0) then accepted.1 else 0

unfoldable pub good_of : ShapeParts → ℕ
good_of parts = sum_by (good_by parts) (accepted_of parts.tiles parts.melds parts.seen)

-- both, of a hand that isn't ready
abbrev pub outlook_of : ShapeParts → Outlook
outlook_of parts = record { second = second_of parts; good = good_of parts }

unfoldable pub deeper_of : ShapeParts → Option Outlook
deeper_of parts = if nat_lt 1 (distance_of parts.tiles parts.melds) then Some (outlook_of parts) else None

-- the same after a discard
abbrev pub deeper_without : ShapeParts → ℕ → Option Outlook
deeper_without parts kind = deeper_of (parts_without parts kind)
