-- What outcomes have in common: who wins, and who has bet.
use Rattle.std.specs.Prelude.{Bool, true, false, Option, Some, None}
use Rattle.riichi_table.specs.Players.{same_for_all, with_player}
use Rattle.riichi_table.specs.declared.player.ByPlayer.{ByPlayer}
use Rattle.riichi_table.specs.declared.outcome.Win.{Win}
use Rattle.riichi_table.specs.declared.outcome.Outcome.{Outcome}
use Rattle.riichi_table.specs.declared.outcome.Outcome.TheVariants.{Ron, Tsumo, Draw, Abort, Penalty}

-- what each player wins, all who said ron among them
abbrev pub wins_in : Outcome → ByPlayer (Option Win)
wins_in (Ron from wins riichi) = wins
wins_in (Tsumo winner win riichi) = with_player (same_for_all None) winner (Some win)
wins_in other = same_for_all None

-- who has bet in the deal
abbrev pub riichi_in : Outcome → ByPlayer Bool
riichi_in (Ron from wins riichi) = riichi
riichi_in (Tsumo winner win riichi) = riichi
riichi_in (Draw ready nagashi riichi) = riichi
riichi_in (Abort riichi) = riichi
riichi_in other = same_for_all false

abbrev pub is_penalty : Outcome → Bool
is_penalty (Penalty player points) = true
is_penalty other = false
