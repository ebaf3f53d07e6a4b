-- Which tile to discard from a hand of fourteen, and what it then accepts.
use Rattle.std.specs.Prelude.{ℕ, ◌&&◌, Bool, nat_le, if◌then◌else◌, List, [], ◌∷◌, map, filter}
use Rattle.std.specs.List.{list_all}
use Rattle.riichi_tiles.specs.Tiles.{has_tile}
use Rattle.riichi_tiles.specs.Melds.{every_kind}
use Rattle.riichi_tiles.specs.declared.meld.Meld.{Meld}
use Rattle.riichi_shape.specs.Accepted.{accepted_of, with_one, without_one}
use Rattle.riichi_shape.specs.EveryWinning.{distance_of}
use Rattle.riichi_shape.specs.LiveCopies.{live_in}
use Rattle.riichi_shape.specs.declared.discard.Discard.{Discard}

-- the distance that is left without a tile of the kind
abbrev pub distance_without : List ℕ → List Meld → ℕ → ℕ
distance_without hand melds kind = distance_of (without_one hand kind) melds

-- no other removal leaves a lesser distance
abbrev pub is_best : List ℕ → List Meld → ℕ → Bool
is_best hand melds kind = list_all (λ other. nat_le (distance_without hand melds kind) (distance_without hand melds other)) (filter (has_tile hand) every_kind)

-- a discard has the accepted list of the hand without its tile, which is then seen
abbrev pub discard_of : List ℕ → List Meld → List ℕ → ℕ → Discard
discard_of hand melds seen kind = record { kind = kind; accepted = accepted_of (without_one hand kind) melds (with_one seen kind) }

-- more live copies in all first, then the kind's number; a discard goes before those of greater kinds that have no more
abbrev pub live_with : Discard → ℕ
live_with discard = live_in discard.accepted

-- put before the first whose key is no greater
unfoldable pub inserted_by : {A : Type 0} → (A → ℕ) → A → List A → List A
inserted_by key item [] = item ∷ []
inserted_by key item (next ∷ rest) =
    if nat_le (key next) (key item) then item ∷ next ∷ rest else next ∷ inserted_by key item rest

abbrev pub inserted : Discard → List Discard → List Discard
inserted = inserted_by live_with

unfoldable pub in_order : List Discard → List Discard
in_order [] = []
in_order (discard ∷ rest) = inserted discard (in_order rest)

abbrev pub is_discard : List ℕ → List Meld → ℕ → Bool
is_discard hand melds kind = has_tile hand kind && is_best hand melds kind

-- the discards of a hand
unfoldable pub discards_of : List ℕ → List Meld → List ℕ → List Discard
discards_of hand melds seen = in_order (map (discard_of hand melds seen) (filter (is_discard hand melds) every_kind))
