-- What holds of the totals of a tournament.
use Rattle.std.specs.Prelude.{◌≡◌, ◌*◌, ◌<◌, ℕ, List, length, All, IsPermutation, ℤ, pos}
use Rattle.std.specs.List.{range_with_len}
use Rattle.riichi_hand.specs.Rules.{Rules}
use Rattle.riichi_table.specs.Players.{of_player, over_players, sum_over_players}
use Rattle.riichi_places.specs.Finals.{for_sticks}
use Rattle.riichi_standings.specs.Laws.{sum_of, name_at, StandAlike}
use Rattle.riichi_standings.specs.Tallies.{total_points_of}
use Rattle.riichi_standings.specs.declared.places.TieBreak.{TieBreak}
use Rattle.desk_lines.specs.Lines.{lines}
use Rattle.desk_games.specs.Laws.{UndoNone}
use Rattle.desk_games.specs.Played.{GameSoFar}
use Rattle.desk_standings.specs.Ended.{EndsGame}
use Rattle.desk_standings.specs.Halls.{Held, nothing_held, TakesInTurn}
use Rattle.desk_standings.specs.declared.ended.EndedGame.{EndedGame}

-- the final points of the four players of a game, added up
abbrev pub game_sum : EndedGame → ℤ
game_sum game = sum_over_players (λ player. (of_player game.finals player).total)

-- the totals of all players, added up
abbrev pub sum_of_totals : Held → ℤ
sum_of_totals held = sum_of (λ player. total_points_of player held.games.results) (range_with_len 0 (length held.games.names))

-- the totals of all players are together the final points of all games that were taken
abbrev pub TotalsAreThoseOfGames : Type 0
TotalsAreThoseOfGames = (games : List EndedGame) (held : Held) → TakesInTurn nothing_held games held → sum_of_totals held ≡ sum_of game_sum games

-- and nothing, where those of each game are
abbrev pub TotalsAddUpToNothing : Type 0
TotalsAddUpToNothing = (games : List EndedGame) (held : Held) → TakesInTurn nothing_held games held → All (λ game. game_sum game ≡ pos 0) games → sum_of_totals held ≡ pos 0

-- the same games in another order, as of files in another order, make the same standings: a player stands as the one of that name does
abbrev pub OrderOfFilesIsFree : Type 0
OrderOfFilesIsFree = (ties : TieBreak) (one other : List EndedGame) (held other_held : Held) → TakesInTurn nothing_held one held → TakesInTurn nothing_held other other_held → IsPermutation one other →
    (player other_player : ℕ) → player < length held.games.names → other_player < length other_held.games.names → name_at held.games.names player ≡ name_at other_held.games.names other_player →
    StandAlike ties held.games.names held.games.results player other_held.games.names other_held.games.results other_player

-- Nobody has a penalty, and no stick is lost.
pub record LosesNothing (game : GameSoFar) : Type 0 where
  pub penalties : over_players (of_player game.progress.penalties) ≡ 0
  pub sticks : for_sticks game.rules.left game.progress.state.sticks ≡ 1000 * game.progress.state.sticks

-- the final points of a game that is over add up to nothing, where none of its lines was taken back and it loses nothing
abbrev pub GamesAddUpToNothing : Type 0
GamesAddUpToNothing = (given : Rules) (text rest : List ℕ) (ended : EndedGame) (ends : EndsGame given text ended rest) → UndoNone (lines ends.played.front) → LosesNothing ends.game → game_sum ended ≡ pos 0
