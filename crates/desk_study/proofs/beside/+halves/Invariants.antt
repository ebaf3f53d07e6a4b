use Rattle.std.proofs.Common.{◌+◌, ◌*◌}
use Rattle.desk_study.proofs.beside.+halves.Given as goal

-- the workers are shared out
abbrev pub decreases-answer_by : goal.decreases-answer_by
decreases-answer_by g l = 2 * l.workers

abbrev pub decreases-beside : goal.decreases-beside
decreases-beside g l = 2 * l.half + 1

abbrev pub decreases-here : goal.decreases-here
decreases-here g l = 2 * l.others + 1
