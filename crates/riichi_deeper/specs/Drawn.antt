-- A hand with one tile more, or after a discard.
use Rattle.std.specs.Prelude.{ℕ}
use Rattle.riichi_hand.specs.HandParts.{ShapeParts}
use Rattle.riichi_shape.specs.Accepted.{with_one, without_one}

-- a tile of the kind comes to the hand
abbrev pub parts_with : ShapeParts → ℕ → ShapeParts
parts_with parts kind = record { tiles = with_one parts.tiles kind; melds = parts.melds; seen = parts.seen }

-- a tile of the kind is thrown, and then seen
abbrev pub parts_without : ShapeParts → ℕ → ShapeParts
parts_without parts kind = record { tiles = without_one parts.tiles kind; melds = parts.melds; seen = with_one parts.seen kind }
