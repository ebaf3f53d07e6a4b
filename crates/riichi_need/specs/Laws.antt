-- What holds of all needs.
use Rattle.std.specs.Prelude.{ℕ, ◌≡◌, ◌≤◌, true, false, ℤ, ◌+ℤ◌}
use Rattle.riichi_table.specs.Players.{of_player, is_same_player}
use Rattle.riichi_table.specs.Worths.{base_of_worth}
use Rattle.riichi_table.specs.declared.player.Player.{Player}
use Rattle.riichi_table.specs.declared.worth.Worth.{Worth}
use Rattle.riichi_table.specs.declared.outcome.Outcome.{Outcome}
use Rattle.riichi_settle.specs.Laws.{change_of, lone_ron, lone_tsumo, nobody}
use Rattle.riichi_need.specs.Winning.{points_then}
use Rattle.riichi_need.specs.Reaching.{reaches}
use Rattle.riichi_need.specs.declared.question.Aim.{Aim}
use Rattle.riichi_need.specs.declared.question.Question.{Question}
use Rattle.riichi_need.specs.declared.question.Way.{Way}
use Rattle.riichi_need.specs.declared.question.Way.TheVariants.{Ron, Tsumo}

-- where a win brings the player to the place, every greater one does
abbrev pub GreaterReachesToo : Type 0
GreaterReachesToo = (question : Question) (aim : Aim) (way : Way) (base greater : ℕ) →
    base ≤ greater → reaches question aim way base ≡ true → reaches question aim way greater ≡ true

-- the change by the outcome, as a deal with it is settled
abbrev pub settled_change : Question → Outcome → Player → ℤ
settled_change question outcome player = change_of question.state question.rules outcome player

-- where nobody bets, the points that a win by ron is asked by are those that it is settled with
abbrev pub RonIsSettledSo : Type 0
RonIsSettledSo = (question : Question) (from player : Player) (worth : Worth) →
    question.bets ≡ nobody → is_same_player from question.player ≡ false →
    points_then question (Ron from) (base_of_worth worth) player
    ≡ of_player question.state.points player +ℤ settled_change question (lone_ron from question.player worth) player

-- and those of a win by self-draw too
abbrev pub TsumoIsSettledSo : Type 0
TsumoIsSettledSo = (question : Question) (player : Player) (worth : Worth) → question.bets ≡ nobody →
    points_then question Tsumo (base_of_worth worth) player
    ≡ of_player question.state.points player +ℤ settled_change question (lone_tsumo question.player worth) player
