-- Furiten and safe tiles.
use Rattle.std.specs.Prelude.{ℕ, ◌+◌, ◌-◌, ◌==◌, ◌&&◌, ◌||◌, Bool, nat_le, if◌then◌else◌, List, [], ◌∷◌, Option, None, Some}
use Rattle.riichi_tiles.specs.HeldKinds.{is_held, kinds_where}
use Rattle.riichi_tiles.specs.Kinds.{begins_run}
use Rattle.riichi_tiles.specs.Tiles.{has_tile}
use Rattle.riichi_hand.specs.Hand.{is_thirteen}
use Rattle.riichi_hand.specs.HandParts.{HandParts}
use Rattle.riichi_split.specs.Waits.{waits_of}
use Rattle.riichi_safe.specs.declared.sides.TwoSided.{TwoSided}
use Rattle.riichi_safe.specs.declared.sides.WaitState.{WaitState}
use Rattle.riichi_safe.specs.declared.sides.WaitState.TheVariants.{Open, Suji, Wall}
use Rattle.riichi_safe.specs.Records.{copies_seen}
use Rattle.riichi_safe.specs.SafeParts.{SafeParts}

-- ---- kinds that can't be won on

-- the threatening player has thrown it, or another has since that player's riichi and wasn't won from
abbrev pub is_passed : SafeParts → ℕ → Bool
is_passed parts kind = has_tile parts.thrown kind || has_tile parts.since kind

-- of the concealed tiles the kinds that this player can't win on
unfoldable pub safe_kinds : SafeParts → ℕ
safe_kinds parts = kinds_where (λ kind. has_tile parts.hand.tiles kind && is_passed parts kind)

-- ---- two-sided waits

-- The two neighbours above a kind wait for it and for the kind above them: each of the two runs is one of a suit, so they are 2-3 to 7-8.
abbrev pub are_two_sided : ℕ → Bool
are_two_sided below = begins_run below && begins_run (below + 1)

-- all four tiles of a kind are seen, so that no one else holds any
abbrev pub is_wall : SafeParts → ℕ → Bool
is_wall parts kind = copies_seen parts kind == 4

-- of the wait by two neighbours, the lower of which is this, and the other kind for which they wait
abbrev pub state_of : SafeParts → ℕ → ℕ → WaitState
state_of parts low other =
    if is_passed parts other then Suji
    else (if is_wall parts low || is_wall parts (low + 1) then Wall
    else Open)

abbrev pub wait_by : SafeParts → ℕ → ℕ → TwoSided
wait_by parts low other = record { low = low; other = other; state = state_of parts low other }

-- the wait for a kind by the two below it, and that by the two above it
unfoldable pub wait_from_below : SafeParts → ℕ → Option TwoSided
wait_from_below parts kind = if nat_le 3 kind && are_two_sided (kind - 3) then Some (wait_by parts (kind - 2) (kind - 3)) else None

unfoldable pub wait_from_above : SafeParts → ℕ → Option TwoSided
wait_from_above parts kind = if are_two_sided kind then Some (wait_by parts (kind + 1) (kind + 3)) else None

abbrev pub two_sided_of : SafeParts → ℕ → List (Option TwoSided)
two_sided_of parts kind = wait_from_below parts kind ∷ wait_from_above parts kind ∷ []

-- ---- furiten

-- the hand by itself, and the kinds for which it waits: copies that are seen elsewhere don't matter
abbrev pub own_hand : SafeParts → HandParts
own_hand parts = record { concealed = parts.hand.tiles; melds = parts.hand.melds }

abbrev pub own_waits : SafeParts → ℕ
own_waits parts = waits_of (own_hand parts)

-- those of some waits that the hand's player has thrown; none where there are no waits
abbrev pub own_among : SafeParts → ℕ → Option ℕ
own_among parts waits = if waits == 0 then None else Some (kinds_where (λ kind. is_held waits kind && has_tile parts.own kind))

-- of thirteen tiles that wait for some kind
unfoldable pub furiten_of : SafeParts → Option ℕ
furiten_of parts = if is_thirteen parts.hand.tiles parts.hand.melds then own_among parts (own_waits parts) else None
