use Rattle.desk_games.proofs.GamePieces.{games_by_pieces}
use Rattle.desk_games.proofs.laws.pieces_of_games_are_answered_as_the_whole.Goals as goal

pub returns : goal.returns
returns c = games_by_pieces
