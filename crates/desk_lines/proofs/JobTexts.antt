-- The text of what each sort of job is worth.
use Rattle.std.proofs.Common.{◌≡◌, refl}
use Rattle.riichi_hand.specs.declared.win.WinParts.{WinParts}
use Rattle.riichi_hand.specs.declared.job.Job.TheVariants as job
use Rattle.riichi_hand.specs.HandParts.{HandParts, ShapeParts}
use Rattle.riichi_split.specs.Waits.{waits_of, waits_text}
use Rattle.riichi_score.specs.Best.{best_of}
use Rattle.riichi_score.specs.Text.{win_text}
use Rattle.riichi_shape.specs.Answer.{shape_answer_of}
use Rattle.riichi_shape.specs.Text.{shape_text}
use Rattle.desk_core.specs.AnswerText.{answer_text}
use Rattle.desk_core.specs.Value.{value_of}

pub of_win : (win : WinParts) → answer_text (value_of (job.Win win)) ≡ win_text (best_of win)
unfolding answer_text value_of
of_win win = refl

pub of_waits : (hand : HandParts) → answer_text (value_of (job.Waits hand)) ≡ waits_text (waits_of hand)
unfolding answer_text value_of
of_waits hand = refl

pub of_shape : (tiles : ShapeParts) → answer_text (value_of (job.Shape tiles)) ≡ shape_text (shape_answer_of tiles)
unfolding answer_text value_of
of_shape tiles = refl

pub ruleset job_texts = (of_win, of_waits, of_shape)
