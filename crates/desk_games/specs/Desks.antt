-- A text of games so far: the game at hand, and how it ends where no line of it follows.
use Rattle.std.specs.Prelude.{ℕ, List, ◌++◌, Bool, true, false, not, ◌&&◌, Option, None, Some, if◌then◌else◌, codes}
use Rattle.riichi_table.specs.declared.player.ByPlayer.{ByPlayer}
use Rattle.riichi_game.specs.Games.{first_progress}
use Rattle.riichi_places.specs.Finals.{finals_of}
use Rattle.riichi_places.specs.declared.finals.FinalPoints.{FinalPoints}
use Rattle.riichi_game_text.specs.Answers.{stands_text}
use Rattle.riichi_game_text.specs.FinalTexts.{over_text}
use Rattle.riichi_game_text.specs.GameLines.{GameSaid}
use Rattle.riichi_game_json.specs.Finals.{over_members}
use Rattle.riichi_game_json.specs.States.{stands_members}
use Rattle.riichi_game_sheet.specs.Deals.{stands_row}
use Rattle.riichi_game_sheet.specs.Ends.{over_rows}
use Rattle.desk_games.specs.Below.{below_end}
use Rattle.desk_games.specs.Forms.{writing_of, written}
use Rattle.desk_games.specs.Played.{GameSoFar, hold}
use Rattle.desk_games.specs.declared.desk.GameDesk.{GameDesk}
use Rattle.desk_games.specs.declared.desk.GameDesk.TheVariants as desk
use Rattle.desk_games.specs.declared.form.GamesForm.{GamesForm}

-- ---- where a game begins

-- before the first deal of a game with these names and rules
abbrev pub new_game : GameSaid → GameSoFar
new_game said = record { names = said.names; rules = said.rules; progress = first_progress said.rules; former = None; is_held = false }

-- behind a line `game`; where it is refused the game has no state
abbrev pub begun_desk : Option GameSaid → GameDesk
begun_desk None = desk.Refused
begun_desk (Some said) = desk.Game (new_game said)

-- ---- where a line of it is refused

-- its game is held; where no game has begun, or one without a state, there is none to hold
abbrev pub held_desk : GameDesk → GameDesk
held_desk desk.NoGame = desk.NoGame
held_desk desk.Refused = desk.Refused
held_desk (desk.Game game) = desk.Game (hold game)

-- a line of the game was refused, the line `game` among them
abbrev pub is_held_desk : GameDesk → Bool
is_held_desk desk.NoGame = false
is_held_desk desk.Refused = true
is_held_desk (desk.Game game) = game.is_held

-- the game at hand, where no line of it was refused
abbrev pub open_game : GameDesk → Option GameSoFar
open_game desk.NoGame = None
open_game desk.Refused = None
open_game (desk.Game game) = if game.is_held then None else Some game

-- ---- where no line of it follows

-- a game that is over and has no refused line has ended
abbrev pub has_ended : GameSoFar → Bool
has_ended game = game.progress.is_over && not game.is_held

abbrev pub finals : GameSoFar → ByPlayer FinalPoints
finals game = finals_of game.rules game.progress.state game.progress.penalties

-- the places and final points of a game that has ended; of any other the state, and of one with a refused line the last good state
unfoldable pub end_text : GameSoFar → List ℕ
end_text game =
    if has_ended game then over_text game.names game.progress.state.sticks (finals game)
    else stands_text game.progress.state

-- the same as an object: its members, and the object
unfoldable pub end_members : GameSoFar → List ℕ
end_members game =
    if has_ended game then over_members game.names game.progress.state.sticks (finals game)
    else stands_members game.progress.state

unfoldable pub end_object : GameSoFar → List ℕ
end_object game = codes "{" ++ end_members game

-- the same as rows of a sheet, with an empty one behind them
unfoldable pub end_rows : GameSoFar → List ℕ
end_rows game =
    (if has_ended game then over_rows game.names game.progress.state.sticks (finals game) else stands_row game.progress.state) ++ codes "\n"

abbrev pub end_text_in : GamesForm → GameSoFar → List ℕ
end_text_in form game = written (writing_of form) (end_text game) (end_object game) (end_rows game)

abbrev pub below_end_of : GamesForm → GameSoFar → List ℕ
below_end_of form game = below_end form (has_ended game) game.names game.rules (finals game)

-- in this form, and below it how the final points are made, where that is told
abbrev pub end_in : GamesForm → GameSoFar → List ℕ
end_in form game = end_text_in form game ++ below_end_of form game

-- what is told behind the last line of the game at hand: nothing where there is none, or none with a state
abbrev pub told_at_end : GamesForm → GameDesk → Option (List ℕ)
told_at_end form desk.NoGame = None
told_at_end form desk.Refused = None
told_at_end form (desk.Game game) = Some (end_in form game)
