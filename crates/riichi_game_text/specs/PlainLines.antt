-- The lines of a game without a hand.
use Rattle.std.specs.Prelude.{ℕ, List, [], ◌∷◌, Bool, Option, None, Some, Result, Ok, Err, if◌then◌else◌}
use Rattle.riichi_table.specs.RulesFaults.{is_points}
use Rattle.riichi_table.specs.declared.player.Player.{Player}
use Rattle.riichi_table.specs.declared.player.ByPlayer.{ByPlayer}
use Rattle.riichi_table.specs.declared.outcome.Outcome.{Outcome}
use Rattle.riichi_table.specs.declared.outcome.Outcome.TheVariants.{Draw, Abort, Chombo, Penalty, End}
use Rattle.riichi_game_text.specs.Numbers.{number_in}
use Rattle.riichi_game_text.specs.Names.{player_named}
use Rattle.riichi_game_text.specs.Listed.{players_if_said}
use Rattle.riichi_game_text.specs.Forms.{DrawForm, draw_form, riichi_at_end, name_form}
use Rattle.riichi_game_text.specs.declared.fault.GameFault.{GameFault}
use Rattle.riichi_game_text.specs.declared.fault.GameFault.TheVariants.{G4, G5}

-- `draw [ready NAMES] [nagashi NAMES] [riichi NAMES]`
abbrev pub draw_by : Option (ByPlayer Bool) → Option (ByPlayer Bool) → Option (ByPlayer Bool) → Result Outcome GameFault
draw_by (Some ready) (Some nagashi) (Some riichi) = Ok (Draw ready nagashi riichi)
draw_by ready nagashi riichi = Err G5

abbrev pub draw_said : ByPlayer (List ℕ) → Option DrawForm → Result Outcome GameFault
draw_said names None = Err G4
draw_said names (Some form) = draw_by (players_if_said names form.ready) (players_if_said names form.nagashi) (players_if_said names form.riichi)

abbrev pub draw_of : ByPlayer (List ℕ) → List (List ℕ) → Result Outcome GameFault
draw_of names words = draw_said names (draw_form words)

-- `abort [riichi NAMES]`
abbrev pub abort_by : Option (ByPlayer Bool) → Result Outcome GameFault
abort_by None = Err G5
abort_by (Some riichi) = Ok (Abort riichi)

abbrev pub abort_said : ByPlayer (List ℕ) → Option (Option (List ℕ)) → Result Outcome GameFault
abort_said names None = Err G4
abort_said names (Some riichi) = abort_by (players_if_said names riichi)

abbrev pub abort_of : ByPlayer (List ℕ) → List (List ℕ) → Result Outcome GameFault
abort_of names words = abort_said names (riichi_at_end words)

-- `chombo NAME`
abbrev pub chombo_by : Option Player → Result Outcome GameFault
chombo_by None = Err G5
chombo_by (Some player) = Ok (Chombo player)

abbrev pub chombo_said : ByPlayer (List ℕ) → Option (List ℕ) → Result Outcome GameFault
chombo_said names None = Err G4
chombo_said names (Some name) = chombo_by (player_named names name)

abbrev pub chombo_of : ByPlayer (List ℕ) → List (List ℕ) → Result Outcome GameFault
chombo_of names words = chombo_said names (name_form words)

-- `penalty NAME POINTS`: whole hundreds up to a million
abbrev pub points_if : Option ℕ → Option ℕ
points_if None = None
points_if (Some points) = if is_points points then Some points else None

abbrev pub penalty_by : Option Player → ℕ → Result Outcome GameFault
penalty_by None points = Err G5
penalty_by (Some player) points = Ok (Penalty player points)

abbrev pub penalty_with : ByPlayer (List ℕ) → List ℕ → Option ℕ → Result Outcome GameFault
penalty_with names name None = Err G4
penalty_with names name (Some points) = penalty_by (player_named names name) points

abbrev pub penalty_of : ByPlayer (List ℕ) → List (List ℕ) → Result Outcome GameFault
penalty_of names (name ∷ points ∷ []) = penalty_with names name (points_if (number_in points))
penalty_of names others = Err G4

-- `end`
abbrev pub end_of : List (List ℕ) → Result Outcome GameFault
end_of [] = Ok End
end_of words = Err G4
