use Rattle.std.proofs.Common.{List, ℕ, [], ◌∷◌, ◌++◌, drop, sym, subst, ap, ◌∙◌}
use Rattle.desk_lines.specs.Reasoned.{IsJobReasoned}
use Rattle.desk_lines.proofs.ReasonLemmas.{reasoned_brace}
use Rattle.desk_lines.proofs.reasoned.ReasonedMembersResponder.put_job.Goals as goal

pub returns : goal.returns
returns g c =
    let made = c.make_reasoned in
    let object = made.new.outbox.object.bytes in (
      drop 1 object,
      subst (λ (text : List ℕ). IsJobReasoned c.args.rules c.args.job.now text) (sym (reasoned_brace c.args.rules c.args.job.now object made.ensures.object)) made.ensures.object,
      c.put_members.ensures ∙ ap (λ bytes. bytes.items ++ (drop 1 object ++ 10 ∷ [])) made.ensures.same,
    )
