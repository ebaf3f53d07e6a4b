use Rattle.desk_games.proofs.AtHand.{game_comes_from_its_lines}
use Rattle.desk_games.proofs.laws.a_game_comes_from_its_lines.Goals as goal

pub returns-clause-whole : goal.returns-clause-whole
returns-clause-whole c = game_comes_from_its_lines
