-- What the values of a study line's own keys say.
use Rattle.std.specs.Prelude.{ℕ, List, [], ◌∷◌, Option, None, Some, Result, Ok, Err, codes, nat_le, ◌&&◌, if◌then◌else◌}
use Rattle.riichi_tiles.specs.Notation.{reading_of}
use Rattle.riichi_tiles.specs.declared.notation.NotationFault.{NotationFault}
use Rattle.riichi_hand.specs.Texts.{only_kind}
use Rattle.riichi_hand.specs.Values.{number_of, value_beside}
use Rattle.riichi_deeper.specs.declared.thrown.Thrower.{Thrower}
use Rattle.riichi_deeper.specs.declared.thrown.Thrower.TheVariants.{Left, Across, Right}
use Rattle.riichi_study.specs.declared.order.Order.{Order}
use Rattle.riichi_study.specs.declared.order.Order.TheVariants.{Live, Second, Good}

abbrev pub order_of : List ℕ → Option Order
order_of value = value_beside ((codes "live", Live) ∷ (codes "second", Second) ∷ (codes "good", Good) ∷ []) value

abbrev pub thrower_of : List ℕ → Option Thrower
thrower_of value = value_beside ((codes "left", Left) ∷ (codes "across", Across) ∷ (codes "right", Right) ∷ []) value

abbrev pub spelled : Result (List ℕ) NotationFault → Option (List ℕ)
spelled (Ok counts) = Some counts
spelled (Err fault) = None

-- the tiles that a text spells
unfoldable pub tiles_named : List ℕ → Option (List ℕ)
tiles_named value = spelled (reading_of value)

abbrev pub only_tile : Result (List ℕ) NotationFault → Option ℕ
only_tile (Ok counts) = only_kind counts
only_tile (Err fault) = None

-- the kind of the only tile that a text spells
unfoldable pub tile_named : List ℕ → Option ℕ
tile_named value = only_tile (reading_of value)

-- no fewer than one, and no more than a player of four has in a deal
abbrev pub turns_of : ℕ → Option ℕ
turns_of count = if nat_le 1 count && nat_le count 18 then Some count else None

abbrev pub turns_if : Option ℕ → Option ℕ
turns_if None = None
turns_if (Some count) = turns_of count

-- in one or two decimal digits
abbrev pub turns_named : List ℕ → Option ℕ
turns_named value = turns_if (number_of value)
