-- What stands below an answer and says why it is so. Where the answers alone are told it is nothing.
use Rattle.std.specs.Prelude.{ℕ, List, [], ◌∷◌, ◌++◌, Bool, true, false, ◌&&◌, not, if◌then◌else◌, Option, None, Some}
use Rattle.std.specs.List.{flat_map}
use Rattle.riichi_table.specs.Players.{of_player}
use Rattle.riichi_table.specs.declared.player.Player.{Player}
use Rattle.riichi_table.specs.declared.player.Player.TheVariants.{First, Second, Third, Fourth}
use Rattle.riichi_table.specs.declared.player.ByPlayer.{ByPlayer}
use Rattle.riichi_table.specs.declared.rules.TableRules.{TableRules}
use Rattle.riichi_table.specs.declared.outcome.Outcome.{Outcome}
use Rattle.riichi_settle.specs.Settled.{moves_of}
use Rattle.riichi_settle.specs.declared.moved.Move.{Move}
use Rattle.riichi_places.specs.declared.finals.FinalPoints.{FinalPoints}
use Rattle.riichi_game.specs.declared.game.Progress.{Progress}
use Rattle.riichi_game_reasons.specs.EndReasons.{end_reason, end_line}
use Rattle.riichi_game_reasons.specs.FinalSums.{final_reasons}
use Rattle.riichi_game_reasons.specs.MoveLines.{move_line}
use Rattle.riichi_game_reasons.specs.ValueLines.{value_line}
use Rattle.riichi_game_reasons.specs.declared.ends.EndReason.TheVariants.{Said}
use Rattle.riichi_game_text.specs.Names.{names_in}
use Rattle.riichi_game_text.specs.Words.{said_in}
use Rattle.riichi_game_text.specs.WonValues.{won_values}
use Rattle.riichi_game_text.specs.declared.won_value.WonValue.{WonValue}
use Rattle.desk_games.specs.declared.below.Step.{Step}
use Rattle.desk_games.specs.declared.form.GamesForm.{GamesForm}
use Rattle.desk_games.specs.declared.form.GamesForm.TheVariants.{Answers, Explained, Objects, Sheet}

-- whether it is said why answers are so
abbrev pub explains : GamesForm → Bool
explains Answers = false
explains Explained = true
explains Objects = false
explains Sheet = false

-- ---- a deal

-- An outcome of a game with these names and rules, how far the game has come before it and after it, and the line that says it.
pub record GameStep : Type 0 where
  pub names : ByPlayer (List ℕ)
  pub rules : TableRules
  pub before : Progress
  pub after : Progress
  pub outcome : Outcome
  pub line : List ℕ

abbrev pub step_in : Step → GameStep
step_in step = record {
  names = names_in step.names.now;
  rules = step.rules.now;
  before = step.before.now;
  after = step.after.now;
  outcome = step.outcome.now;
  line = step.line.now;
}

abbrev pub value_below : List ℕ → Option WonValue → List ℕ
value_below name None = []
value_below name (Some value) = 10 ∷ value_line name value

abbrev pub player_value : GameStep → ByPlayer (Option WonValue) → Player → List ℕ
player_value step values player = value_below (of_player step.names player) (of_player values player)

-- a line for each who has a value by han and fu or by a hand, by the first seats
abbrev pub values_below : GameStep → ByPlayer (Option WonValue) → List ℕ
values_below step values =
    player_value step values First ++ (player_value step values Second ++ (player_value step values Third ++ player_value step values Fourth))

-- the line of a move, behind the end of the line before it
abbrev pub move_below : GameStep → Move → List ℕ
move_below step move = 10 ∷ move_line step.names step.before.state.counters step.outcome move

-- a line for each move
abbrev pub moves_below : GameStep → List Move → List ℕ
moves_below step moves = flat_map (move_below step) moves

-- a line that says why the game is over, where the deal ended it
abbrev pub end_below : GameStep → List ℕ
end_below step =
    if step.after.is_over && not step.before.is_over
    then 10 ∷ end_line step.names step.rules step.after.state.points (end_reason step.rules step.before.state step.after.state step.outcome)
    else []

-- what the hands are worth, what the deal moves, in the order of the list that it is settled by, and why the game is over
abbrev pub deal_reasons : GameStep → List ℕ
deal_reasons step =
    values_below step (won_values step.names step.rules step.before.state (said_in step.line))
    ++ (moves_below step (moves_of step.before.state step.rules step.outcome) ++ end_below step)

-- what stands below the answer to a deal
abbrev pub below_deal : GamesForm → GameStep → List ℕ
below_deal form step = if explains form then deal_reasons step else []

-- ---- the end of a game

-- `end` has no answer of its own; explained it has its reason
abbrev pub said_end : GamesForm → GameStep → Option (List ℕ)
said_end form step = if explains form then Some (end_line step.names step.rules step.after.state.points Said) else None

-- what stands below the end of a game: how the final points are made, where it has ended
abbrev pub below_end : GamesForm → Bool → ByPlayer (List ℕ) → TableRules → ByPlayer FinalPoints → List ℕ
below_end form has_ended names rules finals = if explains form && has_ended then 10 ∷ final_reasons names rules finals else []
