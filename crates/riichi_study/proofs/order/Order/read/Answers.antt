use Rattle.std.proofs.Common.{rules, arith, refl}
use Rattle.std.specs.Prelude.{codes}
use Rattle.std.proofs.lemmas.Slice.Eq.{text_from_reads}
use Rattle.riichi_study.proofs.order.Order.read.Goals as goal

pub returns-in-second : goal.returns-in-second
returns-in-second c = rw (text_from_reads c.args.value.now (codes "second") (omega arith) (search rules)) refl
