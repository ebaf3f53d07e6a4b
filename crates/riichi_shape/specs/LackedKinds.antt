-- Which kinds the least winning multisets lack, as the program keeps them.
use Rattle.std.specs.Prelude.{ℕ, ◌<◌, ◌≤◌, ◌↔◌, ◌||◌, Bool, IsTrue, List, length, slice_index}
use Rattle.riichi_rows.specs.Marks.{has_rank}
use Rattle.riichi_tiles.specs.Kinds.{rank_of, suit_of}
use Rattle.riichi_tiles.specs.Melds.{tiles}
use Rattle.riichi_tiles.specs.Suits.{of_suit}
use Rattle.riichi_rows.specs.declared.rank_set.RankSet.{RankSet}
use Rattle.riichi_tiles.specs.declared.by_suit.BySuit.{BySuit}
use Rattle.riichi_tiles.specs.declared.meld.Meld.{Meld}
use Rattle.riichi_shape.specs.Accepted.{AreAccepted, AreLiveCopies}
use Rattle.riichi_shape.specs.EveryWinning.{distance_of}
use Rattle.riichi_shape.specs.Lacked.{StandardLacks, WinningLacks}
use Rattle.riichi_shape.specs.Special.{special_lacks}
use Rattle.riichi_tiles.specs.Forms.{IsSetsAndPair}
use Rattle.riichi_shape.specs.Winning.{WithinFour, lacking}
use Rattle.riichi_shape.specs.declared.lacked_kinds.LackedKinds.{LackedKinds}

-- a kind is lacked where its rank is lacked in its suit
abbrev pub suits_lack : BySuit RankSet → ℕ → Bool
suits_lack suits kind = has_rank (of_suit suits (suit_of kind)) (rank_of kind)

-- a kind of which so many are held is lacked by sets and a pair, or by another form
abbrev pub lacks_kind : LackedKinds → ℕ → ℕ → Bool
lacks_kind lacked kind held = suits_lack lacked.suits kind || special_lacks lacked.special kind held

-- no sets and a pair lack fewer than n tiles
abbrev pub NoneStandardLess : List ℕ → List Meld → ℕ → ℕ → Type 0
NoneStandardLess hand melds sets n = (wanted : List ℕ) → IsSetsAndPair sets wanted → WithinFour melds wanted → n ≤ lacking hand wanted

-- just the kinds that some sets and a pair lack which lack n tiles
pub record AreSuitsLacked (hand : List ℕ) (melds : List Meld) (sets n : ℕ) (suits : BySuit RankSet) : Type 0 where
  pub at : (kind : ℕ) → kind < 34 → IsTrue (suits_lack suits kind) ↔ StandardLacks hand melds sets n kind

-- just the kinds that some winning multiset lacks which lacks n tiles
pub record AreLackedKinds (hand : List ℕ) (melds : List Meld) (n : ℕ) (lacked : LackedKinds) : Type 0 where
  pub at : (kind : ℕ) → kind < 34 → IsTrue (lacks_kind lacked kind (slice_index hand kind)) ↔ WinningLacks hand melds n kind

-- just the kinds that the least winning multisets lack, beside melds that a hand can have
pub record AreLackedOf (hand : List ℕ) (melds : List Meld) (lacked : LackedKinds) : Type 0 where
  pub at_most_four : length melds ≤ 4
  pub of_a_kind : (kind : ℕ) → kind < 34 → tiles melds kind ≤ 4
  pub least : AreLackedKinds hand melds (distance_of hand melds) lacked

-- what these kinds have of the live copies is what a hand accepts that lacks just the kinds that are lacked
abbrev pub AreAcceptedBy : List ℕ → LackedKinds → List ℕ → ℕ → Type 0
AreAcceptedBy hand lacked copies set =
    (melds : List Meld) (seen : List ℕ) → AreLackedOf hand melds lacked → AreLiveCopies hand melds seen copies → AreAccepted hand melds seen copies set
