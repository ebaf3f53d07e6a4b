use Rattle.riichi_standings.proofs.Named.{order_of_games_is_free}
use Rattle.riichi_standings.proofs.laws.the_order_of_games_is_free.Goals as goal

pub returns : goal.returns
returns c = order_of_games_is_free
