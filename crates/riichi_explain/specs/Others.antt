-- The lines of the readings beside the one that is shown.
use Rattle.std.specs.Prelude.{◌≡◌, ℕ, List, [], ◌++◌, Option, None, Some, codes, if◌then◌else◌}
use Rattle.std.specs.List.{flat_map}
use Rattle.riichi_hand.specs.declared.win.WinParts.{WinParts}
use Rattle.riichi_split.specs.declared.reading.Reading.{Reading}
use Rattle.riichi_split.specs.contracts.reading.ReadingPartialEq.TheImpl.{ghosts as reading}
use Rattle.riichi_yaku.specs.YakuSets.{is_yakuman}
use Rattle.riichi_score.specs.declared.score.Score.{Score}
use Rattle.riichi_explain.specs.declared.ranked.RankedReading.{RankedReading}
use Rattle.riichi_explain.specs.Han.{han_rows}
use Rattle.riichi_explain.specs.Ranked.{AreRanked}
use Rattle.riichi_explain.specs.Text.{other_line, han_line, fu_line_if, gain_line, line_feed}
use Rattle.riichi_explain.specs.Win.{counted_fu}

-- what a reading is worth, and why: its yaku, its fu, and the gain
unfoldable pub scored_text : Reading → Score → WinParts → List ℕ
scored_text read score win =
    let yakuman = is_yakuman score.yaku in
    other_line [] read win ++ han_line yakuman score.han (han_rows score.yaku win)
    ++ fu_line_if yakuman (counted_fu yakuman read win) score.fu ++ gain_line score.gain win.sticks

unfoldable pub ranked_text : WinParts → Reading → Option Score → List ℕ
ranked_text win read None = other_line (codes ": no yaku") read win
ranked_text win read (Some score) = scored_text read score win

-- nothing of the reading that is shown
abbrev pub other_reading_text : Reading → WinParts → RankedReading → List ℕ
other_reading_text shown win one = if reading.eq one.reading shown then [] else ranked_text win one.reading one.score

abbrev pub others_text : Reading → List RankedReading → WinParts → List ℕ
others_text shown ranked win = flat_map (other_reading_text shown win) ranked

-- The text has each reading of the hand but the one that is shown, the best first.
pub record IsOthersText (shown : Reading) (win : WinParts) (text : List ℕ) : Type 0 where
  pub ranked : List RankedReading
  pub are_ranked : AreRanked win ranked
  pub text_is : text ≡ others_text shown ranked win
