-- The least lack of a winning multiset, and the shanten.
use Rattle.std.specs.Prelude.{◌≡◌, ℕ, ◌≤◌, ℤ, pos, ◌+ℤ◌, ◌≤ℤ◌, List, Option, Some, None}
use Rattle.riichi_tiles.specs.declared.meld.Meld.{Meld}
use Rattle.riichi_tiles.specs.Forms.{IsSetsAndPair, IsSevenPairs, IsThirteenOrphans}
use Rattle.riichi_shape.specs.Winning.{IsWinning, WithinFour, lacking}

-- some winning multiset lacks n tiles, and none lacks less
pub record IsDistance (hand : List ℕ) (melds : List Meld) (n : ℕ) : Type 0 where
  pub wanted : List ℕ
  pub is_winning : IsWinning melds wanted
  pub reached : lacking hand wanted ≡ n
  pub none_less : (other : List ℕ) → IsWinning melds other → n ≤ lacking hand other

-- some winning multiset lacks one tile more than the shanten says
pub record ShantenReached (hand : List ℕ) (melds : List Meld) (shanten : ℤ) : Type 0 where
  pub wanted : List ℕ
  pub is_winning : IsWinning melds wanted
  pub lacks : pos (lacking hand wanted) ≡ shanten +ℤ pos 1

-- and none lacks less
pub record NoneLacksLess (hand : List ℕ) (melds : List Meld) (shanten : ℤ) : Type 0 where
  pub bound : (wanted : List ℕ) → IsWinning melds wanted → (shanten +ℤ pos 1) ≤ℤ pos (lacking hand wanted)

-- by sets and a pair alone: a winning multiset that lacks n tiles
pub record StandardReached (hand : List ℕ) (melds : List Meld) (sets n : ℕ) : Type 0 where
  pub wanted : List ℕ
  pub sets_and_pair : IsSetsAndPair sets wanted
  pub within_four : WithinFour melds wanted
  pub lacks : lacking hand wanted ≡ n

-- the least lack of one, or none where there is none
abbrev pub IsLeastStandard : List ℕ → List Meld → ℕ → Option ℕ → Type 0
IsLeastStandard hand melds sets (Some n) =
    StandardReached hand melds sets n × ((wanted : List ℕ) → IsSetsAndPair sets wanted → WithinFour melds wanted → n ≤ lacking hand wanted)
IsLeastStandard hand melds sets None = (wanted : List ℕ) → IsSetsAndPair sets wanted → WithinFour melds wanted → ⊥

-- seven pairs of which the hand lacks n tiles
pub record PairsReached (hand : List ℕ) (n : ℕ) : Type 0 where
  pub wanted : List ℕ
  pub seven_pairs : IsSevenPairs wanted
  pub lacks : lacking hand wanted ≡ n

-- thirteen orphans of which the hand lacks n tiles
pub record OrphansReached (hand : List ℕ) (n : ℕ) : Type 0 where
  pub wanted : List ℕ
  pub thirteen_orphans : IsThirteenOrphans wanted
  pub lacks : lacking hand wanted ≡ n
