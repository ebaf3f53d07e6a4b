use Rattle.std.proofs.Common.{[], ◌∷◌, ◌++◌, drop, ap, ◌∙◌}
use Rattle.desk_lines.proofs.JsonLemmas.{brace_of, fault_brace}
use Rattle.desk_lines.proofs.objects.MembersResponder.put_refusal.Goals as goal

pub returns : goal.returns
returns c =
    let made = c.make_refusal in
    let object = made.new.outbox.object.bytes in
    let is = made.ensures.object in (
      drop 1 object,
      brace_of object _ is (fault_brace c.args.line.now c.args.refusal.now.fault) ∙ is,
      c.put_members.ensures ∙ ap (λ bytes. bytes.items ++ (drop 1 object ++ 10 ∷ [])) made.ensures.same,
    )
