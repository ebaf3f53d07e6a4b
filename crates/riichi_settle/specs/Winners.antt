-- Who wins on a discard.
use Rattle.std.specs.Prelude.{Bool, nat_lt, if◌then◌else◌, Option, None, is_some}
use Rattle.riichi_table.specs.Players.{of_player, by_players, with_player, same_for_all, after, count_players}
use Rattle.riichi_table.specs.declared.player.Player.{Player}
use Rattle.riichi_table.specs.declared.player.ByPlayer.{ByPlayer}
use Rattle.riichi_table.specs.declared.rules.TableRules.{TableRules}
use Rattle.riichi_table.specs.declared.rules.SeveralWinners.{SeveralWinners}
use Rattle.riichi_table.specs.declared.rules.SeveralWinners.TheVariants.{All, Nearest, Two}
use Rattle.riichi_table.specs.declared.outcome.Win.{Win}
use Rattle.riichi_table.specs.declared.outcome.Outcome.{Outcome}
use Rattle.riichi_table.specs.declared.outcome.Outcome.TheVariants.{Ron, Abort}

abbrev pub wins_of : ByPlayer (Option Win) → Player → Bool
wins_of wins player = is_some (of_player wins player)

abbrev pub winners : ByPlayer (Option Win) → ByPlayer Bool
winners wins = by_players (wins_of wins)

-- of those who win, the first in turn behind the discarder
unfoldable pub nearest : Player → ByPlayer (Option Win) → Player
nearest from wins =
    if wins_of wins (after from) then after from
    else if wins_of wins (after (after from)) then after (after from)
    else if wins_of wins (after (after (after from))) then after (after (after from))
    else from

-- the win of the nearest, and no other
unfoldable pub nearest_alone : Player → ByPlayer (Option Win) → ByPlayer (Option Win)
nearest_alone from wins = with_player (same_for_all None) (nearest from wins) (of_player wins (nearest from wins))

-- three winners make it an abortive draw
abbrev pub two_at_most : Player → ByPlayer (Option Win) → ByPlayer Bool → Outcome
two_at_most from wins riichi = if nat_lt 2 (count_players (of_player (winners wins))) then Abort riichi else Ron from wins riichi

unfoldable pub ron_as_played : SeveralWinners → Player → ByPlayer (Option Win) → ByPlayer Bool → Outcome
ron_as_played All from wins riichi = Ron from wins riichi
ron_as_played Nearest from wins riichi = Ron from (nearest_alone from wins) riichi
ron_as_played Two from wins riichi = two_at_most from wins riichi

-- how an outcome is played under the rules of the table
abbrev pub as_played : TableRules → Outcome → Outcome
as_played rules (Ron from wins riichi) = ron_as_played rules.ron from wins riichi
as_played rules outcome = outcome
