use Rattle.std.proofs.Common.{◌≡◌, ◌∙◌, sym, ℕ, List}
use Rattle.riichi_tiles.specs.Notation.{HasFault}
use Rattle.riichi_tiles.specs.declared.notation.NotationCode.{NotationCode}
use Rattle.riichi_tiles.proofs.OneFault.{code_is}
use Rattle.riichi_tiles.proofs.FirstFault.{reading_of_spelled}
use Rattle.riichi_tiles.proofs.notation.reading.read_counts.Goals as goal

-- no two faults have the same place
one_code : (text : List ℕ) (one other : NotationCode) (place : ℕ) → HasFault text one place → HasFault text other place → one ≡ other
one_code text one other place has_one has_other = code_is text one place has_one ∙ sym (code_is text other place has_other)

pub returns-in-Ok-clause-only : goal.returns-in-Ok-clause-only
returns-in-Ok-clause-only c = λ counts spells. sym c.in-Ok.ensures.value ∙ reading_of_spelled c.args.text.now counts spells
