-- Sets of kinds as numbers: bit n is for the kind n. So the kinds that are held are one number.
use Rattle.std.specs.Prelude.{ℕ, ◌≡◌, ◌^◌, Bool, true, ◌==◌, List, map}
use Rattle.std.specs.Int.{bit_at}
use Rattle.std.specs.Int.RustNames.{bit_or}
use Rattle.std.specs.Simd.Lanes.{mask_l}
use Rattle.riichi_tiles.specs.Melds.{every_kind}
use Rattle.riichi_tiles.specs.Tiles.{has_tile}

-- the kind is in the set
unfoldable pub is_held : ℕ → ℕ → Bool
is_held kinds kind = bit_at kinds kind == 1

-- it is that of the kinds of which there is a tile
pub record AreHeldOf (counts : List ℕ) (kinds : ℕ) : Type 0 where
  pub each : (kind : ℕ) → is_held kinds kind ≡ has_tile counts kind

-- the kind is in the set, as a fact
abbrev pub IsMarked : ℕ → ℕ → Type 0
IsMarked kinds kind = is_held kinds kind ≡ true

-- the same set, with one kind
unfoldable pub with_kind : ℕ → ℕ → ℕ
with_kind kinds kind = bit_or kinds (2 ^ kind)

-- the kinds that pass a test
unfoldable pub kinds_where : (ℕ → Bool) → ℕ
kinds_where test = mask_l (map test every_kind)
