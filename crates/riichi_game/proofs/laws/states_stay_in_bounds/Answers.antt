use Rattle.riichi_game.proofs.Order.{stays_in_room}
use Rattle.riichi_game.proofs.laws.states_stay_in_bounds.Goals as goal

pub returns-clause-room : goal.returns-clause-room
returns-clause-room c = stays_in_room
