use Rattle.std.proofs.Common.{[], ◌∷◌, ◌++◌, drop, ap, ◌∙◌}
use Rattle.desk_core.specs.Value.{value_of}
use Rattle.desk_lines.proofs.JsonLemmas.{brace_of, answer_brace}
use Rattle.desk_lines.proofs.objects.MembersResponder.put_job.Goals as goal

pub returns : goal.returns
returns g c =
    let made = c.make_object in
    let object = made.new.outbox.object.bytes in
    let is = made.ensures.object in (
      drop 1 object,
      brace_of object _ is (answer_brace c.args.rules (value_of c.args.job.now)) ∙ is,
      c.put_members.ensures ∙ ap (λ bytes. bytes.items ++ (drop 1 object ++ 10 ∷ [])) made.ensures.same,
    )
