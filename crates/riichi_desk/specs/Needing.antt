-- What the command `need` asks of the last game of a text, or why there is nothing to ask.
use Rattle.std.specs.Prelude.{ℕ, Bool, List, Option, None, Some, Result, Ok, Err, if◌then◌else◌}
use Rattle.riichi_table.specs.declared.player.Player.{Player}
use Rattle.riichi_table.specs.declared.player.ByPlayer.{ByPlayer}
use Rattle.riichi_need.specs.declared.question.Question.{Question}
use Rattle.riichi_game_text.specs.Names.{player_named}
use Rattle.riichi_game_text.specs.Listed.{players_if_said}
use Rattle.desk_games.specs.Desks.{open_game}
use Rattle.desk_games.specs.Played.{GameSoFar}
use Rattle.desk_games.specs.declared.desk.GameDesk.{GameDesk}
use Rattle.riichi_desk.specs.declared.needs.NoNeed.{NoNeed}
use Rattle.riichi_desk.specs.declared.needs.NoNeed.TheVariants.{NoGame, Over, NoPlayer, NoBettors}

-- a question of this game: a player, a place, and the bets of others in the deal
abbrev pub question_with : GameSoFar → ℕ → Option Player → Option (ByPlayer Bool) → Result Question NoNeed
question_with game place None bets = Err NoPlayer
question_with game place (Some player) None = Err NoBettors
question_with game place (Some player) (Some bets) = Ok (record {
  rules = game.rules;
  state = game.progress.state;
  bets = bets;
  player = player;
  place = place;
})

abbrev pub question_asked : Option GameSoFar → ℕ → List ℕ → Option (List ℕ) → Result Question NoNeed
question_asked None place name riichi = Err NoGame
question_asked (Some game) place name riichi =
    if game.progress.is_over then Err Over
    else question_with game place (player_named game.names name) (players_if_said game.names riichi)

-- the question of a name, a place, and the names of others who bet, in the last game of a text
abbrev pub question_of : GameDesk → ℕ → List ℕ → Option (List ℕ) → Result Question NoNeed
question_of desk place name riichi = question_asked (open_game desk) place name riichi
