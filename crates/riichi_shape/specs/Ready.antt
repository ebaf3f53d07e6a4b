-- When a hand of thirteen tiles is ready.
use Rattle.std.specs.Prelude.{◌≡◌, ℕ, ◌<◌, ◌↔◌, List, length}
use Rattle.riichi_tiles.specs.declared.meld.Meld.{Meld}
use Rattle.riichi_hand.specs.Hand.{size}
use Rattle.riichi_shape.specs.Accepted.{with_one}
use Rattle.riichi_shape.specs.Distance.{IsDistance}
use Rattle.riichi_shape.specs.Winning.{IsWinning}

-- some tile completes a winning multiset
pub record IsReady (hand : List ℕ) (melds : List Meld) : Type 0 where
  pub kind : ℕ
  pub is_kind : kind < 34
  pub is_winning : IsWinning melds (with_one hand kind)

-- thirteen tiles always lack one, and lack only one exactly where some tile completes them
abbrev pub ReadyLaw : Type 0
ReadyLaw =
    (hand : List ℕ) (melds : List Meld) (n : ℕ) → length hand ≡ 34 → size hand melds ≡ 13 → IsDistance hand melds n →
    (0 < n) × ((n ≡ 1) ↔ IsReady hand melds)
