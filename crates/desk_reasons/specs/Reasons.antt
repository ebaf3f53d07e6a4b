-- The object of a win, with the reasons at its end.
use Rattle.std.specs.Prelude.{◌≡◌, ℕ, List, codes}
use Rattle.riichi_hand.specs.declared.win.WinParts.{WinParts}
use Rattle.riichi_score.specs.Best.{best_of}
use Rattle.riichi_explain.specs.declared.ranked.RankedReading.{RankedReading}
use Rattle.riichi_explain.specs.declared.win.WinExplanation.{WinExplanation}
use Rattle.riichi_explain.specs.Ranked.{AreRanked}
use Rattle.riichi_explain.specs.Win.{Explains, explained_answer}
use Rattle.desk_json.specs.Text.{json_text}
use Rattle.desk_json.specs.Trees.{win_tree}
use Rattle.desk_reasons.specs.Trees.{why_tree, with_member}

-- The object answers a win under its rules, and its last member says why, by a reading that is worth the answer and by every reading of the hand,
-- the best first.
pub record IsExplainedWin (win : WinParts) (object : List ℕ) : Type 0 where
  pub explanation : WinExplanation
  pub answer : explained_answer explanation ≡ best_of win
  pub explains : Explains win explanation
  pub ranked : List RankedReading
  pub are_ranked : AreRanked win ranked
  pub object_is : object ≡ json_text (with_member (win_tree win.rules (best_of win)) (codes "why", why_tree explanation ranked))
