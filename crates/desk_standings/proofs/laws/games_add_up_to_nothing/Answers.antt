use Rattle.desk_standings.proofs.GameSums.{games_add_up_to_nothing}
use Rattle.desk_standings.proofs.laws.games_add_up_to_nothing.Goals as goal

pub returns : goal.returns
returns c = games_add_up_to_nothing
