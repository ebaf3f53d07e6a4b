-- What a job is worth.
use Rattle.riichi_hand.specs.declared.job.Job.{Job}
use Rattle.riichi_hand.specs.declared.job.Job.TheVariants as job
use Rattle.riichi_split.specs.Waits.{waits_of}
use Rattle.riichi_score.specs.Best.{best_of}
use Rattle.riichi_shape.specs.Answer.{shape_answer_of}
use Rattle.desk_core.specs.declared.answer.Answer.{Answer}
use Rattle.desk_core.specs.declared.answer.Answer.TheVariants as answer

-- the value of a job: the best score of a win, the waits of a hand, or the shanten of a shape and what it accepts
unfoldable pub value_of : Job → Answer
value_of (job.Win win) = answer.Win (best_of win)
value_of (job.Waits hand) = answer.Waits (waits_of hand)
value_of (job.Shape shape) = answer.Shape (shape_answer_of shape)
