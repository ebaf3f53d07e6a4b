use Rattle.std.proofs.Common.{subst, sym}
use Rattle.std.proofs.lemmas.List.Elements.{All-get_or}
use Rattle.riichi_study.specs.WorthTexts.{IsRest}
use Rattle.riichi_worth.specs.declared.discards.DiscardWorth.{DiscardWorth}
use Rattle.desk_study.proofs.worths.put_each.Goals as goal

pub put_after-requires-clause-rest : goal.put_after-requires-clause-rest
put_after-requires-clause-rest c =
    subst (λ (one : DiscardWorth). IsRest one.worth.rest) (sym c.one-item.is) (All-get_or (λ (one : DiscardWorth). IsRest one.worth.rest) c.args.each.now c.loop-one.one-index c.one-item.result c.loop-one-test.true c.requires.rests)
