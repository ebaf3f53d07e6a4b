-- What holds of the points that draws bring.
use Rattle.std.specs.Prelude.{◌≡◌, ℕ, ◌*◌, ◌≤◌}
use Rattle.riichi_hand.specs.HandParts.{ShapeParts}
use Rattle.riichi_chances.specs.Draws.{all_draws, unseen_of}
use Rattle.riichi_chances.specs.Laws.{IsThirteen}
use Rattle.riichi_worth.specs.CountedPoints.{counted_points}
use Rattle.riichi_worth.specs.Worths.{total_points}
use Rattle.riichi_worth.specs.declared.stakes.Stakes.{Stakes}
use Rattle.riichi_worth.specs.declared.stakes.TheConstants.{MOST_PRIZE}

-- the state is the hand and the turns that are left: the accepted kinds alone tell the points
abbrev pub CountedLaw : Type 0
CountedLaw = (stakes : Stakes) (parts : ShapeParts) (turns : ℕ) → IsThirteen parts → total_points stakes parts turns ≡ counted_points stakes parts (unseen_of parts) turns

-- no hand is worth more than the dearest win
abbrev pub FewLaw : Type 0
FewLaw = (stakes : Stakes) (parts : ShapeParts) (turns : ℕ) → IsThirteen parts → total_points stakes parts turns ≤ MOST_PRIZE * all_draws (unseen_of parts) turns
