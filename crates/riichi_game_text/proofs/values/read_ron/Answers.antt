use Rattle.std.proofs.Common.{rules, arith, refl}
use Rattle.std.specs.Prelude.{codes}
use Rattle.std.proofs.lemmas.Slice.Eq.{text_from_reads}
use Rattle.riichi_game_text.proofs.values.read_ron.Goals as goal

pub returns-in-nearest : goal.returns-in-nearest
returns-in-nearest c = rw (text_from_reads c.args.value.now (codes "nearest") (omega arith) (search rules)) refl
