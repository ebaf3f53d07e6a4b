use Rattle.std.proofs.Common.{◌+◌, ◌*◌, length}
use Rattle.desk_crew.proofs.round.+answer_beside+fn-answer_beside-ours.Given as goal

-- a thread fewer is to come
abbrev pub decreases-answer_beside : goal.decreases-answer_beside
decreases-answer_beside g l = 2 * length l.shares.now

abbrev pub decreases-ours : goal.decreases-ours
decreases-ours g l = 2 * length l.others.now + 1
