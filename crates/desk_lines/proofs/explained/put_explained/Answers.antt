use Rattle.std.proofs.Common.{ℕ, List, [], ◌∷◌, ◌++◌, refl, sym, ap, ◌∙◌}
use Rattle.riichi_hand.specs.declared.job.Job.TheVariants as job
use Rattle.riichi_explain.specs.Waits.{kind_waits, waits_line}
use Rattle.desk_lines.proofs.ExplainedPuts.{job_with_why}
use Rattle.desk_lines.proofs.JobTexts.{of_win, of_waits, of_shape}
use Rattle.desk_lines.proofs.explained.put_explained.Goals as goal

pub returns-in-Waits : goal.returns-in-Waits
returns-in-Waits g c =
    let before = c.args.outbox.now.bytes.items in
    let why = waits_line (kind_waits c.in-Waits.hand) in
    rw c.in-Waits.is (job_with_why c.args.shown (job.Waits c.in-Waits.hand) before c.put_kinds.new.outbox.bytes.items why refl
    (c.put_kinds.ensures ∙ ap (λ (answer : List ℕ). before ++ ((answer ++ 10 ∷ []) ++ why)) (sym (of_waits c.in-Waits.hand))))

pub returns-in-Win : goal.returns-in-Win
returns-in-Win g c =
    let before = c.args.outbox.now.bytes.items in
    let put = c.put_win.ensures in
    rw c.in-Win.is (job_with_why c.args.shown (job.Win c.in-Win.win) before c.put_win.new.outbox.bytes.items put.0 put.1
    (put.2 ∙ ap (λ (answer : List ℕ). before ++ ((answer ++ 10 ∷ []) ++ put.0)) (sym (of_win c.in-Win.win))))

pub returns-in-Shape : goal.returns-in-Shape
returns-in-Shape g c =
    let before = c.args.outbox.now.bytes.items in
    let put = c.put_forms.ensures in
    rw c.in-Shape.is (job_with_why c.args.shown (job.Shape c.in-Shape.tiles) before c.put_forms.new.outbox.bytes.items put.0 put.1
    (put.2 ∙ ap (λ (answer : List ℕ). before ++ ((answer ++ 10 ∷ []) ++ put.0)) (sym (of_shape c.in-Shape.tiles))))
