-- What is told of wins under the profile of a number.
use Rattle.std.specs.Prelude.{◌≡◌, ℕ, List, Option, Some, None}
use Rattle.riichi_hand.specs.Rules.{Rules}
use Rattle.riichi_win_arrays.specs.Wins.{AreScored}
use Rattle.riichi_win_arrays.specs.declared.score_row.ScoreRow.{ScoreRow}
use Rattle.riichi_win_arrays.specs.declared.win_row.WinRow.{WinRow}

-- without a profile no row is answered
abbrev pub rows_under : Option Rules → ℕ → ℕ
rows_under None rows = 0
rows_under (Some rules) rows = rows

abbrev pub AreScoredUnder : Option Rules → ℕ → List WinRow → List ScoreRow → List ScoreRow → Type 0
AreScoredUnder None rows wins before after = after ≡ before
AreScoredUnder (Some rules) rows wins before after = AreScored rules rows wins before after
