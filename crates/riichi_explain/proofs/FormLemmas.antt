-- The melds of a win, and the distances of its tiles.
use Rattle.std.proofs.Common.{◌≡◌, ℕ, ◌<◌, ◌≤◌, List, subst, arith}
use Rattle.riichi_tiles.specs.Melds.{tiles}
use Rattle.riichi_tiles.specs.declared.meld.Meld.{Meld}
use Rattle.riichi_hand.specs.Win.{IsWinRecord}
use Rattle.riichi_hand.specs.declared.win.WinParts.{WinParts}
use Rattle.riichi_score.proofs.Wins.{four_copies}
use Rattle.riichi_shape.specs.declared.forms.FormDistances.{FormDistances}
use Rattle.riichi_explain.specs.Forms.{AreFormDistances}

pub melds_of_win : (w : WinParts) (melds : List Meld) (kind : ℕ) → IsWinRecord w → melds ≡ w.melds → kind < 34 → tiles melds kind ≤ 4
melds_of_win w melds kind is same low =
    subst (λ (m : List Meld). m ≡ w.melds → tiles m kind ≤ 4) (sym-of same) (λ e. omega (arith, four_copies w kind is low)) same
  where
    sym-of : melds ≡ w.melds → w.melds ≡ melds
    sym-of e = cc

-- the distances of tiles and melds that are these
pub distances_of : (hand tiles : List ℕ) (melds others : List Meld) (forms : FormDistances) → hand ≡ tiles → melds ≡ others → AreFormDistances hand melds forms → AreFormDistances tiles others forms
distances_of hand tiles melds others forms a b h =
    subst (λ (x : List ℕ). AreFormDistances x others forms) a (subst (λ (x : List Meld). AreFormDistances hand x forms) b h)
