use Rattle.desk_script.proofs.Only.{only_replay}
use Rattle.desk_script.proofs.laws.answers_are_determined.Goals as goal

pub returns : goal.returns
returns c = only_replay
