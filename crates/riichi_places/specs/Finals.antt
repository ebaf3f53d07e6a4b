-- The final points of a game.
use Rattle.std.specs.Prelude.{ℕ, ◌*◌, if◌then◌else◌, ℤ, pos, ◌+ℤ◌, ◌-ℤ◌}
use Rattle.riichi_table.specs.Players.{of_player, by_players}
use Rattle.riichi_table.specs.declared.player.Player.{Player}
use Rattle.riichi_table.specs.declared.player.ByPlayer.{ByPlayer}
use Rattle.riichi_table.specs.declared.rules.LeftSticks.{LeftSticks}
use Rattle.riichi_table.specs.declared.rules.LeftSticks.TheVariants as left
use Rattle.riichi_table.specs.declared.rules.TableRules.{TableRules}
use Rattle.riichi_table.specs.declared.state.GameState.{GameState}
use Rattle.riichi_places.specs.Places.{place_by_points, is_first}
use Rattle.riichi_places.specs.Bonuses.{bonus_of}
use Rattle.riichi_places.specs.declared.finals.FinalPoints.{FinalPoints}

-- what the first has for the sticks that lie at the end
abbrev pub for_sticks : LeftSticks → ℕ → ℕ
for_sticks left.First sticks = 1000 * sticks
for_sticks left.Lost sticks = 0

-- the points of a player at the end, with the sticks
unfoldable pub settled : TableRules → GameState → Player → ℤ
settled rules state player =
    of_player state.points player +ℤ pos (if is_first state.points player then for_sticks rules.left state.sticks else 0)

abbrev pub points_at_end : TableRules → GameState → ByPlayer ℤ
points_at_end rules state = by_players (settled rules state)

-- the points over the return, and the bonus
abbrev pub before_penalties : TableRules → ByPlayer ℤ → Player → ℤ
before_penalties rules points player = (of_player points player -ℤ pos rules.returns) +ℤ bonus_of rules points player

abbrev pub final_of : TableRules → ByPlayer ℤ → ByPlayer ℕ → Player → FinalPoints
final_of rules points penalties player = record {
  place = place_by_points rules.ties points player;
  points = of_player points player;
  bonus = bonus_of rules points player;
  penalty = of_player penalties player;
  total = before_penalties rules points player -ℤ pos (of_player penalties player);
}

abbrev pub finals_of : TableRules → GameState → ByPlayer ℕ → ByPlayer FinalPoints
finals_of rules state penalties = by_players (final_of rules (points_at_end rules state) penalties)
