use Rattle.std.proofs.Common.{◌∙◌, List, sym, subst, ap}
use Rattle.std.specs.Prelude.{All}
use Rattle.riichi_chances.specs.Odds.{ArePartsOfAll}
use Rattle.riichi_chances.specs.declared.odds.DiscardOdds.{DiscardOdds}
use Rattle.desk_study.specs.Found.{each_of}
use Rattle.desk_study.proofs.FoundLemmas.{parts_of_each}
use Rattle.desk_study.proofs.chances.put_discards.Goals as goal

pub put_each-requires-clause-parts : goal.put_each-requires-clause-parts
put_each-requires-clause-parts c =
    let found = c.args.found.now in
    subst (λ (each : List DiscardOdds). All (λ (one : DiscardOdds). ArePartsOfAll one.odds) each) (sym (c.as_slice.ensures.value ∙ c.discards_at-each.ensures ∙ ap (λ turns. each_of turns found.by_turn) c.count.ensures.value))
    (parts_of_each found.by_turn found.turns c.requires.parts)
