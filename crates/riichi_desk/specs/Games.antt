-- What is written for texts of games, and when a line of one is refused.
use Rattle.std.specs.Prelude.{◌≡◌, ◌||◌, ℕ, Bool, true, false, List, [], ◌∷◌, ◌++◌, nat_lt}
use Rattle.desk_io.specs.declared.sink.Sink.{Ghosts as OfSink}
use Rattle.desk_lines.specs.Lines.{lines}
use Rattle.desk_lines.specs.Streams.{WritesAll}
use Rattle.desk_lines.specs.declared.report.DeskReport.{DeskReport}
use Rattle.desk_games.specs.Streams.{games_answers}
use Rattle.desk_game_hints.specs.Hinted.{HintsLines}
use Rattle.desk_games.specs.Texts.{AnswersLines}
use Rattle.desk_games.specs.declared.desk.GameDesk.{GameDesk}
use Rattle.desk_games.specs.declared.desk.GameDesk.TheVariants.{NoGame}
use Rattle.desk_games.specs.declared.form.GamesForm.{GamesForm}
use Rattle.desk_games.specs.declared.form.GamesForm.TheVariants as told
use Rattle.desk_cli.specs.declared.request.GameForm.{GameForm}
use Rattle.desk_cli.specs.declared.request.GameForm.TheVariants as asked
use Rattle.desk_cli.specs.declared.request.GameManner.{GameManner}

-- the form of answers that the command line asks for
abbrev pub form_of : GameForm → GamesForm
form_of asked.Answers = told.Answers
form_of asked.Explained = told.Explained
form_of asked.Objects = told.Objects
form_of asked.Sheet = told.Sheet

-- the answers to lines, with hints below the refused ones or without
abbrev pub AreAnswers : Bool → GameManner → List (List ℕ) → List (List ℕ) → DeskReport → GameDesk → Type 0
AreAnswers false manner lines answers report last =
    AnswersLines manner.is_numbered (form_of manner.form) manner.rules NoGame lines answers report last
AreAnswers true manner lines answers report last = HintsLines manner.is_numbered (form_of manner.form) manner.rules NoGame lines answers report last

-- The lines of a text of games have these answers, which were written, with the end of the last game behind them; and it was noted
-- whether a line is refused.
pub record AnswersGames {W : Type 0} (sink : OfSink W) (manner : GameManner) (is_hinted : Bool) (old new : W) (text : List ℕ) (is_refused : Bool) : Type 0 where
  pub answers : List (List ℕ)
  pub report : DeskReport
  pub last : GameDesk
  pub are : AreAnswers is_hinted manner (lines text) answers report last
  pub written : WritesAll sink old new (games_answers (form_of manner.form) answers last)
  pub refused : is_refused ≡ nat_lt 0 report.refused

-- Texts of games were answered one after another, and it was noted whether a line of any of them is refused.
pub data AnswersAllGames {W : Type 0} (sink : OfSink W) (manner : GameManner) (is_hinted : Bool) (start : W) : List (List ℕ) → W → Bool → Type 0 where
  none : AnswersAllGames sink manner is_hinted start [] start false
  one_more : (texts : List (List ℕ)) (text : List ℕ) (old new : W) (was is : Bool) → AnswersAllGames sink manner is_hinted start texts old was → AnswersGames sink manner is_hinted old new text is
      → AnswersAllGames sink manner is_hinted start (texts ++ text ∷ []) new (was || is)

-- What is wrong with a refused line is told with reasons, and where the answers alone are shown on a terminal.
abbrev pub has_hints : GameForm → Bool → Bool
has_hints asked.Explained has_output = true
has_hints asked.Answers has_output = has_output
has_hints other has_output = false
