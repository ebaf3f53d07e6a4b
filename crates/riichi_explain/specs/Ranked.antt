-- The readings of a win by what they are worth.
use Rattle.std.specs.Prelude.{◌≡◌, ℕ, Bool, Option, None, Some, List, [], length, map, All}
use Rattle.std.specs.List.Sorted.{IsPermutation, IsSortedBy}
use Rattle.std.specs.Ordering.{is_gt, nat_cmp}
use Rattle.std.specs.Cmp.Lexicographic.{slice_cmp}
use Rattle.riichi_hand.specs.declared.win.WinParts.{WinParts}
use Rattle.riichi_split.specs.declared.reading.Reading.{Reading}
use Rattle.riichi_split.specs.Readings.{AreTheReadings}
use Rattle.riichi_score.specs.declared.score.Score.{Score}
use Rattle.riichi_score.specs.Best.{rank}
use Rattle.riichi_score.specs.Scores.{score_of, completed_hand}
use Rattle.riichi_explain.specs.declared.ranked.RankedReading.{RankedReading}

-- what readings are compared by: the numbers by which scores are, and none where there is no yaku
abbrev pub rank_if : Option Score → List ℕ
rank_if None = []
rank_if (Some score) = rank score

-- at the first difference the former has the greater number, or it has a yaku and the latter none
abbrev pub is_worth_more : Option Score → Option Score → Bool
is_worth_more score other = is_gt (slice_cmp nat_cmp (rank_if score) (rank_if other))

-- none is worth more than the one before it
abbrev pub AreInOrder : List RankedReading → Type 0
AreInOrder ranked = IsSortedBy (λ one other. is_worth_more one.score other.score) ranked

-- Each reading of the hand stands there once with its score, in the order of what they are worth.
pub record AreRanked (win : WinParts) (ranked : List RankedReading) : Type 0 where
  pub readings : List Reading
  pub are_all : AreTheReadings (completed_hand win) (length win.melds) win.winning readings
  pub each_once : IsPermutation readings (map (λ one. one.reading) ranked)
  pub scored : All (λ one. one.score ≡ score_of one.reading win) ranked
  pub in_order : AreInOrder ranked
