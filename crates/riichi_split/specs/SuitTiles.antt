-- The tiles of one suit, and of all four: triplets, runs and a pair.
use Rattle.std.specs.Prelude.{◌≡◌, ◌≢◌, ◌↔◌, ℕ, ◌+◌, ◌-◌, ◌*◌, ◌%◌, ◌<◌, ◌≤◌, Bool, IsTrue, List, [], ◌∷◌, length, map, slice_index, slice_set}
use Rattle.std.specs.List.{range_with_len}
use Rattle.riichi_tiles.specs.declared.suit.Suit.{Suit}
use Rattle.riichi_tiles.specs.declared.by_suit.BySuit.{BySuit}
use Rattle.riichi_tiles.specs.Kinds.{first_of, has_runs, suit_of, rank_of}
use Rattle.riichi_tiles.specs.Suits.{by_suits, of_suit, over_suits, with_suit}
pub use Rattle.riichi_split.specs.Marks.{MarksBelow}

-- how many tiles there are of each rank, and whether they make runs
pub record OneSuit : Type 0 where
  pub held : List ℕ
  pub has_runs : Bool

-- the tiles of nine kinds from one on
abbrev pub nine_from : (ℕ → ℕ) → ℕ → List ℕ
nine_from copies first = map copies (range_with_len first 9)

-- the tiles of a suit in a hand; past the last honour there are none
abbrev pub tiles_of_suit : List ℕ → Suit → OneSuit
tiles_of_suit counts suit = record { held = nine_from (slice_index counts) (first_of suit); has_runs = has_runs suit }

-- Ranks in order are triplets and runs, where so many runs began one rank below the first of them, and two ranks below.
abbrev pub AreCut : Bool → ℕ → ℕ → List ℕ → Type 0
AreCut runs one two [] = one + two ≡ 0
AreCut runs one two (held ∷ above) =
    (triplets : ℕ) × (begun : ℕ) × (held ≡ one + two + 3 * triplets + begun) × (0 < begun → IsTrue runs) × AreCut runs begun one above

-- the tiles are triplets and runs
abbrev pub AreSets : OneSuit → Type 0
AreSets tiles = AreCut tiles.has_runs 0 0 tiles.held

abbrev pub without_pair : OneSuit → ℕ → OneSuit
without_pair tiles rank = record tiles { held = slice_set tiles.held rank (slice_index tiles.held rank - 2) }

-- there is a pair of the rank, and the other tiles are sets
abbrev pub HasPairOf : OneSuit → ℕ → Type 0
HasPairOf tiles rank = (2 ≤ slice_index tiles.held rank) × AreSets (without_pair tiles rank)

-- the tiles are sets and a pair
pub record AreSetsAndPair (tiles : OneSuit) : Type 0 where
  pub rank : ℕ
  pub of_nine : rank < 9
  pub two : 2 ≤ slice_index tiles.held rank
  pub sets : AreSets (without_pair tiles rank)

-- the sum of the ranks' numbers, each by what it leaves over by three
abbrev pub third_of : List ℕ → ℕ
third_of held =
    (slice_index held 1 + slice_index held 4 + slice_index held 7 + 2 * (slice_index held 2 + slice_index held 5 + slice_index held 8)) % 3

-- how many pairs the tiles are beside sets: none or one, and another number where they are neither
pub record HasPairs (tiles : OneSuit) (pairs : ℕ) : Type 0 where
  pub nine_ranks : length tiles.held ≡ 9
  pub none : (pairs ≡ 0) ↔ AreSets tiles
  pub one : (pairs ≡ 1) ↔ AreSetsAndPair tiles

-- ---- the four suits

abbrev pub suits_of : List ℕ → BySuit OneSuit
suits_of counts = by_suits (tiles_of_suit counts)

-- one suit is sets and a pair, and each other is sets
pub record AreWon (suits : BySuit OneSuit) : Type 0 where
  pub pair : Suit
  pub has_pair : AreSetsAndPair (of_suit suits pair)
  pub others : (suit : Suit) → suit ≢ pair → AreSets (of_suit suits suit)

-- how many pairs each suit is beside sets
pub record AreCounted (suits : BySuit OneSuit) (pairs : BySuit ℕ) : Type 0 where
  pub each : (suit : Suit) → HasPairs (of_suit suits suit) (of_suit pairs suit)
  pub few : (suit : Suit) → of_suit pairs suit ≤ 2

abbrev pub total_of : BySuit ℕ → ℕ
total_of by = over_suits (of_suit by)

abbrev pub with_tile : OneSuit → ℕ → OneSuit
with_tile tiles rank = record tiles { held = slice_set tiles.held rank (slice_index tiles.held rank + 1) }

-- one more tile of a kind
abbrev pub with_tile_of : BySuit OneSuit → ℕ → BySuit OneSuit
with_tile_of suits kind = with_suit suits (suit_of kind) (with_tile (of_suit suits (suit_of kind)) (rank_of kind))

-- fewer than four of the kind are there, and one more of it makes sets and a pair
pub record Completes (suits : BySuit OneSuit) (kind : ℕ) : Type 0 where
  pub of_a_kind : kind < 34
  pub some_left : slice_index (of_suit suits (suit_of kind)).held (rank_of kind) < 4
  pub wins : AreWon (with_tile_of suits kind)
