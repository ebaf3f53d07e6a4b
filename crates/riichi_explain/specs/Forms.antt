-- How far a hand is from each form of a winning hand.
use Rattle.std.specs.Prelude.{ℕ, ◌≡◌, ◌-◌, ◌==◌, List, [], ◌∷◌, ◌++◌, length, Option, Some, None, codes, decimal, if◌then◌else◌}
use Rattle.riichi_tiles.specs.declared.meld.Meld.{Meld}
use Rattle.riichi_shape.specs.Distance.{IsLeastStandard}
use Rattle.riichi_shape.specs.EveryWinning.{distance_of}
use Rattle.riichi_shape.specs.Forms.{IsPairsDistance, IsOrphansDistance, least_of}
use Rattle.riichi_shape.specs.declared.forms.FormDistances.{FormDistances}

-- the least number of tiles that a hand lacks of each form; the least of these is its distance from a win
pub record AreFormDistances (hand : List ℕ) (melds : List Meld) (forms : FormDistances) : Type 0 where
  pub sets_and_pair : IsLeastStandard hand melds (4 - length melds) (Some forms.sets_and_pair)
  pub seven_pairs : IsPairsDistance hand melds forms.seven_pairs
  pub thirteen_orphans : IsOrphansDistance hand melds forms.thirteen_orphans
  pub least : least_of forms ≡ distance_of hand melds

-- ---- the text

-- one less than the tiles that are lacking
unfoldable pub shanten_text : ℕ → List ℕ
shanten_text lack = if lack == 0 then codes "-1" else decimal (lack - 1)

unfoldable pub form_text : List ℕ → ℕ → List ℕ
form_text name lack = name ++ shanten_text lack

-- a form that stands beside no meld
unfoldable pub special_form_text : List ℕ → Option ℕ → List ℕ
special_form_text name None = []
special_form_text name (Some lack) = form_text name lack

unfoldable pub shanten_line : FormDistances → List ℕ
shanten_line forms =
    codes "  shanten " ++ form_text (codes "sets and a pair ") forms.sets_and_pair
    ++ special_form_text (codes ", seven pairs ") forms.seven_pairs
    ++ special_form_text (codes ", thirteen orphans ") forms.thirteen_orphans ++ 10 ∷ []
