-- Winning multisets of tiles, and what a hand lacks of one. A multiset is a list of counts, one for each of the 34 kinds.
use Rattle.std.specs.Prelude.{ℕ, ◌+◌, ◌-◌, ◌<◌, ◌≤◌, List, sum_by, slice_index, length}
use Rattle.riichi_tiles.specs.Forms.{HasWinningForm}
use Rattle.riichi_tiles.specs.Melds.{every_kind, tiles}
use Rattle.riichi_tiles.specs.declared.meld.Meld.{Meld}

-- with the meld tiles there are at most four of each kind
pub record WithinFour (melds : List Meld) (wanted : List ℕ) : Type 0 where
  pub at : (kind : ℕ) → kind < 34 → slice_index wanted kind + tiles melds kind ≤ 4

-- beside some melds
pub record IsWinning (melds : List Meld) (wanted : List ℕ) : Type 0 where
  pub form : HasWinningForm (length melds) wanted
  pub within_four : WithinFour melds wanted

-- the sum over the kinds of what is wanted more than the hand has
abbrev pub lacking : List ℕ → List ℕ → ℕ
lacking hand wanted = sum_by (λ kind. slice_index wanted kind - slice_index hand kind) every_kind
