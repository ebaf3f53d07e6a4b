use Rattle.std.proofs.Common.{subst, sym}
use Rattle.std.proofs.lemmas.List.Elements.{All-get_or}
use Rattle.riichi_chances.specs.Odds.{ArePartsOfAll}
use Rattle.riichi_chances.specs.declared.odds.DiscardOdds.{DiscardOdds}
use Rattle.desk_study.proofs.chances.put_each.Goals as goal

pub put_after-requires-clause-parts : goal.put_after-requires-clause-parts
put_after-requires-clause-parts c =
    subst (λ (one : DiscardOdds). ArePartsOfAll one.odds) (sym c.one-item.is) (All-get_or (λ (one : DiscardOdds). ArePartsOfAll one.odds) c.args.each.now c.loop-one.one-index c.one-item.result c.loop-one-test.true c.requires.parts)
