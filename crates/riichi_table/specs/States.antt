-- The state before the first deal, and the points of a state.
use Rattle.std.specs.Prelude.{min, ◌*◌, ℤ, pos, ◌+ℤ◌}
use Rattle.riichi_hand.specs.declared.win.Wind.TheVariants.{East}
use Rattle.riichi_table.specs.Players.{of_player, same_for_all, sum_over_players}
use Rattle.riichi_table.specs.declared.player.Player.TheVariants.{First}
use Rattle.riichi_table.specs.declared.rules.TableRules.{TableRules}
use Rattle.riichi_table.specs.declared.state.GameState.{GameState}

abbrev pub first_state : TableRules → GameState
first_state rules = record { points = same_for_all (pos (min rules.start 1000000)); round = East; dealer = First; counters = 0; sticks = 0 }

-- the points of the four players, and 1000 for each stick on the table
unfoldable pub all_points : GameState → ℤ
all_points state = sum_over_players (of_player state.points) +ℤ pos (1000 * state.sticks)
