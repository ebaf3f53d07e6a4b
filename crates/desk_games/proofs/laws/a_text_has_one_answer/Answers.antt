use Rattle.desk_games.proofs.OneAnswer.{answers_are_one}
use Rattle.desk_games.proofs.laws.a_text_has_one_answer.Goals as goal

pub returns : goal.returns
returns c = answers_are_one
