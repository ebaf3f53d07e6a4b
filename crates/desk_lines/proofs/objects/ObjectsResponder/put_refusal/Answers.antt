use Rattle.std.proofs.Common.{[], ◌∷◌, ◌++◌, ap, ◌∙◌}
use Rattle.desk_lines.proofs.objects.ObjectsResponder.put_refusal.Goals as goal

pub returns : goal.returns
returns c =
    let made = c.make_refusal in
    let object = made.new.outbox.object.bytes in
    (object, made.ensures.object, c.put_object.ensures ∙ ap (λ bytes. bytes.items ++ (object ++ 10 ∷ [])) made.ensures.same)
