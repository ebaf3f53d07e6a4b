-- The games of a text in memory, one after another.
use Rattle.std.specs.Prelude.{◌≡◌, ◌⊎◌, ℕ, ◌<◌, List, [], ◌∷◌, length, drop, true, false}
use Rattle.riichi_hand.specs.Rules.{Rules}
use Rattle.desk_lines.specs.Filling.{IsCutBehindLine, IsFirstLine}
use Rattle.desk_lines.specs.Lines.{lines}
use Rattle.desk_lines.specs.declared.report.DeskReport.{DeskReport}
use Rattle.desk_games.specs.Laws.{BeginNone, is_begin}
use Rattle.desk_games.specs.Replies.{seen_in}
use Rattle.desk_games.specs.Texts.{AnswersLines}
use Rattle.desk_games.specs.declared.desk.GameDesk.{GameDesk}
use Rattle.desk_games.specs.declared.desk.GameDesk.TheVariants.{NoGame}
use Rattle.desk_games.specs.declared.form.GamesForm.TheVariants.{Answers}

-- The first line of a text begins a game.
pub record BeginsGame (text : List ℕ) : Type 0 where
  pub line : List ℕ
  pub after : List ℕ
  pub first : IsFirstLine text line after
  pub begins : is_begin (seen_in line) ≡ true

-- The front of a text was played, so many lines of which so many were refused: none behind the first begins a game. Behind it comes
-- another game or nothing.
pub record PlaysGame (given : Rules) (text : List ℕ) (desk : GameDesk) (count refused : ℕ) (rest : List ℕ) : Type 0 where
  pub front : List ℕ
  pub cut : IsCutBehindLine text front rest
  pub answers : List (List ℕ)
  pub report : DeskReport
  pub answered : AnswersLines false Answers given NoGame (lines front) answers report desk
  pub count_is : count ≡ length (lines front)
  pub refused_is : refused ≡ report.refused
  pub alone : BeginNone (drop 1 (lines front))
  pub next : (rest ≡ []) ⊎ BeginsGame rest
  pub shorter : length rest < length text
