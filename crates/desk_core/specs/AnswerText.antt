-- The text of an answer, on one line.
use Rattle.std.specs.Prelude.{ℕ, List}
use Rattle.riichi_split.specs.Waits.{waits_text}
use Rattle.riichi_score.specs.Text.{win_text}
use Rattle.riichi_shape.specs.Text.{shape_text}
use Rattle.desk_core.specs.declared.answer.Answer.{Answer}
use Rattle.desk_core.specs.declared.answer.Answer.TheVariants as answer

unfoldable pub answer_text : Answer → List ℕ
answer_text (answer.Win win) = win_text win
answer_text (answer.Waits kinds) = waits_text kinds
answer_text (answer.Shape shape) = shape_text shape
