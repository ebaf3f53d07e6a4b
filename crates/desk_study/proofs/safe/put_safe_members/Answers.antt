use Rattle.std.proofs.Common.{◌++◌, ◌∙◌, List, ℕ, ap}
use Rattle.desk_study.specs.SafeObjects.{safe_members}
use Rattle.desk_study.proofs.safe.put_safe_members.Goals as goal

pub returns-clause-bytes : goal.returns-clause-bytes
returns-clause-bytes c =
    c.put_object_piece.ensures.bytes
    ∙ ap (λ (t : List ℕ). c.args.outbox.now.bytes.items ++ t) (c.push_members.ensures.bytes ∙ ap (λ (t : List ℕ). t ++ safe_members c.args.asked.now) c.clear.ensures)
