use Rattle.std.proofs.Common.{refl}
use Rattle.desk_lines.proofs.answering.PlainResponder.put_refusal.Goals as goal

pub returns : goal.returns
returns c = (_, refl, c.put_fault.ensures.told)
