-- What holds of every call.
use Rattle.std.specs.Prelude.{◌≡◌, ◌==◌, ◌&&◌, ◌||◌, ℕ, ◌+◌, ◌<◌, ◌≤◌, Bool, true, false, length, slice_index}
use Rattle.riichi_tiles.specs.Kinds.{begins_run}
use Rattle.riichi_tiles.specs.Melds.{is_kong, is_meld, tiles_of}
use Rattle.riichi_tiles.specs.declared.meld.Meld.{Meld}
use Rattle.riichi_tiles.specs.declared.meld.Meld.TheVariants.{Chi, Pon, Kan, Ankan}
use Rattle.riichi_hand.specs.Hand.{IsShape, copies_with, is_thirteen}
use Rattle.riichi_hand.specs.HandParts.{ShapeParts}
use Rattle.riichi_shape.specs.Accepted.{is_accepted, with_one}
use Rattle.riichi_shape.specs.Discards.{distance_without}
use Rattle.riichi_shape.specs.EveryWinning.{distance_of}
use Rattle.riichi_deeper.specs.Calls.{has_meld, parts_after}

-- a hand of thirteen tiles, a tile of which a copy is left, and a meld with that tile whose other tiles the hand has
pub record CanCall (parts : ShapeParts) (tile : ℕ) (meld : Meld) : Type 0 where
  pub each_kind : length parts.tiles ≡ 34
  pub is_shape : IsShape parts
  pub thirteen : is_thirteen parts.tiles parts.melds ≡ true
  pub is_kind : tile < 34
  pub left : copies_with parts tile < 4
  pub proper : is_meld meld ≡ true
  pub has_tile : 0 < tiles_of meld tile
  pub held : has_meld (with_one parts.tiles tile) meld ≡ true

-- the distance after the call and a discard
abbrev pub distance_after : ShapeParts → ℕ → Meld → ℕ → ℕ
distance_after parts tile meld discard = let after = parts_after parts tile meld in distance_without after.tiles after.melds discard

-- where a call for a run or a triplet brings nearer, the hand accepts the tile
abbrev pub AcceptedCallLaw : Type 0
AcceptedCallLaw =
    (parts : ShapeParts) (tile : ℕ) (meld : Meld) (discard : ℕ) → CanCall parts tile meld → is_kong meld ≡ false →
    distance_after parts tile meld discard < distance_of parts.tiles parts.melds → is_accepted parts.tiles parts.melds parts.seen tile ≡ true

-- such a call lowers the distance by at most one
abbrev pub NearerByOneLaw : Type 0
NearerByOneLaw =
    (parts : ShapeParts) (tile : ℕ) (meld : Meld) (discard : ℕ) → CanCall parts tile meld → is_kong meld ≡ false →
    distance_of parts.tiles parts.melds ≤ distance_after parts tile meld discard + 1

-- a call for a kong lowers it by nothing
abbrev pub KongLaw : Type 0
KongLaw =
    (parts : ShapeParts) (tile : ℕ) → CanCall parts tile (Kan tile) →
    (let after = parts_after parts tile (Kan tile) in distance_of parts.tiles parts.melds ≤ distance_of after.tiles after.melds)

-- the kind stands beyond the end of a run at which the called tile is not
abbrev pub is_other_end : ℕ → ℕ → ℕ → Bool
is_other_end low tile kind = ((tile == low) && (kind == low + 3) && begins_run (low + 1)) || ((tile == low + 2) && (kind + 1 == low) && begins_run kind)

-- what the rule against swap calling forbids to throw: a tile of the called kind, or of the other end of the run
abbrev pub swaps : Meld → ℕ → ℕ → Bool
swaps (Chi low) tile kind = (kind == tile) || is_other_end low tile kind
swaps (Pon held) tile kind = kind == tile
swaps (Kan held) tile kind = false
swaps (Ankan held) tile kind = false

-- such a discard never leaves the hand nearer than it was before the call
abbrev pub SwapLaw : Type 0
SwapLaw =
    (parts : ShapeParts) (tile : ℕ) (meld : Meld) (discard : ℕ) → CanCall parts tile meld → swaps meld tile discard ≡ true →
    0 < slice_index (parts_after parts tile meld).tiles discard → distance_of parts.tiles parts.melds ≤ distance_after parts tile meld discard
