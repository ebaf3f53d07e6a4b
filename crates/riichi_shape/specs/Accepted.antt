-- Which kinds bring a hand nearer, and how many copies of them are live.
use Rattle.std.specs.Prelude.{◌≡◌, ℕ, ◌<◌, ◌+◌, ◌-◌, ◌&&◌, Bool, nat_lt, if◌then◌else◌, List, map, filter, length, slice_index}
use Rattle.riichi_tiles.specs.Melds.{every_kind}
pub use Rattle.riichi_tiles.specs.OneTile.{with_one, without_one}
use Rattle.riichi_tiles.specs.declared.meld.Meld.{Meld}
use Rattle.riichi_hand.specs.Hand.{copies_held}
use Rattle.riichi_shape.specs.EveryWinning.{distance_of}
use Rattle.riichi_shape.specs.KindBits.{copies_among}
use Rattle.riichi_shape.specs.LiveCopies.{pairs_of}

-- the copies of a kind that are not in the hand, the melds or seen elsewhere
abbrev pub live_of : List ℕ → List Meld → List ℕ → ℕ → ℕ
live_of hand melds seen kind = 4 - (copies_held hand melds kind + slice_index seen kind)

-- these of every kind
pub record AreLiveCopies (hand : List ℕ) (melds : List Meld) (seen copies : List ℕ) : Type 0 where
  pub long : length copies ≡ 34
  pub seen_long : length seen ≡ 34
  pub at : (kind : ℕ) → kind < 34 → slice_index copies kind ≡ live_of hand melds seen kind

-- a kind is accepted where it has a live copy and one more tile of it lowers the distance
abbrev pub is_accepted : List ℕ → List Meld → List ℕ → ℕ → Bool
is_accepted hand melds seen kind = nat_lt 0 (live_of hand melds seen kind) && nat_lt (distance_of (with_one hand kind) melds) (distance_of hand melds)

-- the live copies of a kind that is accepted
abbrev pub accepted_copies : List ℕ → List Meld → List ℕ → ℕ → ℕ
accepted_copies hand melds seen kind = if is_accepted hand melds seen kind then live_of hand melds seen kind else 0

-- the accepted kinds with their live copies, ascending
unfoldable pub accepted_of : List ℕ → List Meld → List ℕ → List (ℕ × ℕ)
accepted_of hand melds seen = map (λ kind. (kind, live_of hand melds seen kind)) (filter (is_accepted hand melds seen) every_kind)

-- of these live copies those of the kinds of a set are just the accepted ones
abbrev pub AreAccepted : List ℕ → List Meld → List ℕ → List ℕ → ℕ → Type 0
AreAccepted hand melds seen copies set = pairs_of (copies_among copies set) ≡ accepted_of hand melds seen
