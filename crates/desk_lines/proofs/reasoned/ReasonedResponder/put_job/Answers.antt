use Rattle.std.proofs.Common.{[], ◌∷◌, ◌++◌, ap, ◌∙◌}
use Rattle.desk_lines.proofs.reasoned.ReasonedResponder.put_job.Goals as goal

pub returns : goal.returns
returns g c =
    let made = c.make_reasoned in
    let object = made.new.outbox.object.bytes in
    (object, made.ensures.object, c.put_object.ensures ∙ ap (λ bytes. bytes.items ++ (object ++ 10 ∷ [])) made.ensures.same)
