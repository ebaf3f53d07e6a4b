-- Hands in places that are lent, and how they are looked for: each is in one of some lists, which lead from its last place to earlier ones.
use Rattle.std.specs.Prelude.{◌≡◌, ℕ, suc, ◌+◌, ◌*◌, ◌%◌, ◌<◌, ◌≤◌, false, nat_eq, List, [], ◌∷◌, length, map, slice_index, slice_index_or, take}
use Rattle.std.specs.Cmp.Lexicographic.{pointwise}
use Rattle.std.specs.List.{list_any}
use Rattle.riichi_chances.specs.Graph.{HandGraph}
use Rattle.riichi_chances.specs.declared.hand_place.HandPlace.{HandPlace}

-- the list in which a hand is looked for
abbrev pub bucket_from : ℕ → List ℕ → ℕ
bucket_from number [] = number
bucket_from number (count ∷ counts) = bucket_from ((31 * number + count) % 4096) counts

unfoldable pub bucket_of : List ℕ → ℕ
bucket_of tiles = bucket_from 0 tiles

-- the hands of the first places
abbrev pub graph_of : List HandPlace → ℕ → ℕ → HandGraph
graph_of places count most = record { hands = map (λ place. place.tiles) (take count places); nodes = map (λ place. place.node) (take count places); most_hands = most }

-- the hand at a place
abbrev pub tiles_at : List HandPlace → ℕ → List ℕ
tiles_at places place = slice_index_or (map (λ place. place.tiles) places) place []

abbrev pub earlier_at : List HandPlace → ℕ → ℕ
earlier_at places place = slice_index (map (λ place. place.earlier) places) place

-- one more than a place of a list, or 0; no place of the list that is before some is behind it
pub record LeadsTo (places : List HandPlace) (bucket before next : ℕ) : Type 0 where
  pub inside : next ≤ before
  pub in_list : (place : ℕ) → next ≡ suc place → bucket_of (tiles_at places place) ≡ bucket
  pub last : (place : ℕ) → place < before → bucket_of (tiles_at places place) ≡ bucket → place < next

-- each list leads through all of its places
pub record IsIndexed (places : List HandPlace) (lasts : List ℕ) (count most : ℕ) : Type 0 where
  pub few : count ≤ most
  pub room : most ≤ length places
  pub small : most ≤ 65535
  pub from : (bucket : ℕ) → bucket < 4096 → LeadsTo places bucket count (slice_index lasts bucket)
  pub on : (place : ℕ) → place < count → LeadsTo places (bucket_of (tiles_at places place)) place (earlier_at places place)

-- the hand is none of these
abbrev pub IsAbsent : List ℕ → List (List ℕ) → Type 0
IsAbsent tiles hands = list_any (pointwise nat_eq tiles) hands ≡ false
