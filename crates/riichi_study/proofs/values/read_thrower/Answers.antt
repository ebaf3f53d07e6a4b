use Rattle.std.proofs.Common.{rules, arith, refl}
use Rattle.std.specs.Prelude.{codes}
use Rattle.std.proofs.lemmas.Slice.Eq.{text_from_reads}
use Rattle.riichi_study.proofs.values.read_thrower.Goals as goal

pub returns-in-across : goal.returns-in-across
returns-in-across c = rw (text_from_reads c.args.value.now (codes "across") (omega arith) (search rules)) refl
