-- What holds of the draws that bring a hand near enough.
use Rattle.std.specs.Prelude.{◌≡◌, ℕ, ◌<◌, ◌≤◌, [], length}
use Rattle.riichi_hand.specs.Hand.{size}
use Rattle.riichi_hand.specs.HandParts.{ShapeParts}
use Rattle.riichi_tiles.specs.Melds.{tiles}
use Rattle.riichi_chances.specs.AtMost.{most_of_all}
use Rattle.riichi_chances.specs.Counted.{counted_draws}
use Rattle.riichi_chances.specs.Draws.{all_draws, draws, unseen_of}
use Rattle.riichi_chances.specs.Plays.{DrawPlay, draws_by}

-- thirteen tiles with their melds, and a count of each kind for what is seen
pub record IsThirteen (parts : ShapeParts) : Type 0 where
  pub each_kind : length parts.tiles ≡ 34
  pub each_seen : length parts.seen ≡ 34
  pub thirteen : size parts.tiles parts.melds ≡ 13
  pub melded : (kind : ℕ) → kind < 34 → tiles parts.melds kind ≤ 4

-- the same with a tile more
pub record IsFourteen (parts : ShapeParts) : Type 0 where
  pub each_kind : length parts.tiles ≡ 34
  pub each_seen : length parts.seen ≡ 34
  pub fourteen : size parts.tiles parts.melds ≡ 14
  pub melded : (kind : ℕ) → kind < 34 → tiles parts.melds kind ≤ 4

-- the state is the hand and the turns that are left: the accepted kinds alone tell the draws
abbrev pub CountedLaw : Type 0
CountedLaw = (goal : ℕ) (parts : ShapeParts) (turns : ℕ) → IsThirteen parts → draws goal parts turns ≡ counted_draws goal parts (unseen_of parts) turns

-- they are no more than all draws, so that the two numbers are a chance
abbrev pub ChanceLaw : Type 0
ChanceLaw = (goal : ℕ) (parts : ShapeParts) (turns : ℕ) → IsThirteen parts → draws goal parts turns ≤ all_draws (unseen_of parts) turns

-- no play of those that keep only what brings the hand nearer brings it there in more draws than the upper end
abbrev pub PlayLaw : Type 0
PlayLaw = (play : DrawPlay) (goal : ℕ) (parts : ShapeParts) (turns : ℕ) → IsThirteen parts → draws_by play [] goal parts turns ≤ most_of_all goal parts (unseen_of parts) turns

-- nor does the play that the draws are counted by
abbrev pub MostLaw : Type 0
MostLaw = (goal : ℕ) (parts : ShapeParts) (turns : ℕ) → IsThirteen parts → draws goal parts turns ≤ most_of_all goal parts (unseen_of parts) turns
