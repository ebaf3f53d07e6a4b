use Rattle.std.proofs.Common.{sym, ◌∙◌}
use Rattle.std.proofs.lemmas.Bool.{both_ways}
use Rattle.riichi_yaku.proofs.Needs.{neither-dragon}
use Rattle.riichi_yaku.proofs.honours.is_little_three_dragons.Goals as goal
use Rattle.riichi_yaku.proofs.honours.is_little_three_dragons.Goals.{then-has_triplet, else-has_triplet}

pub returns-else-has_triplet-2 : goal.returns-else-has_triplet-2
returns-else-has_triplet-2 c = elim c.if-has_triplet.branch [
  | then-has_triplet w ↦ absurd (both_ways _ c.if-has_triplet-2.false (w.value-is ∙ w.if-has_triplet.true))
  | else-has_triplet w ↦ c.if-has_triplet-2.false ∙ sym (neither-dragon c.args.blocks.now (sym c.has_triplet.ensures ∙ w.if-has_triplet.false) (sym w.has_triplet-else-has_triplet.ensures ∙ sym w.value-is ∙ c.if-has_triplet-2.false))
]
