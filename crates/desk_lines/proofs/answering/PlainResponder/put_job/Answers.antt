use Rattle.std.proofs.Common.{ℕ, List, [], ◌∷◌, ◌++◌, sym, ap, ◌∙◌}
use Rattle.riichi_score.specs.Text.{win_text}
use Rattle.riichi_split.specs.Waits.{waits_text}
use Rattle.desk_lines.proofs.JobTexts.{of_win, of_waits, of_shape}
use Rattle.desk_lines.proofs.answering.PlainResponder.put_job.Goals as goal

pub returns-in-Win : goal.returns-in-Win
returns-in-Win g c =
    let before = c.args.outbox.now.bytes.items in
    let said = c.push_win.ensures ∙ ap (λ (t : List ℕ). t ++ win_text c.best.result) c.clear.ensures ∙ ap win_text c.best.ensures.value in
    rw c.in-Win.is (_, sym (of_win c.in-Win.win), c.put_text.ensures.told ∙ ap (λ (t : List ℕ). before ++ (t ++ 10 ∷ [])) said)

pub returns-in-Waits : goal.returns-in-Waits
returns-in-Waits g c =
    let before = c.args.outbox.now.bytes.items in
    rw c.in-Waits.is (_, sym (of_waits c.in-Waits.hand), c.put_waits.ensures.told ∙ ap (λ kinds. before ++ (waits_text kinds ++ 10 ∷ [])) c.waits_with.ensures.value)

pub returns-in-Shape : goal.returns-in-Shape
returns-in-Shape g c =
    rw c.in-Shape.is (_, sym (of_shape c.in-Shape.tiles), c.put_shape.ensures.told)
