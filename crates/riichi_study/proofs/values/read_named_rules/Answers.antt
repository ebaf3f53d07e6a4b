use Rattle.riichi_study.proofs.NamedRuleLemmas.{named, none_named}
use Rattle.riichi_study.proofs.values.read_named_rules.Goals as goal

pub returns-in-Ok : goal.returns-in-Ok
returns-in-Ok c = named c.args.value.now c.in-Ok.rules c.in-Ok.ensures.ok (λ other names. c.in-Ok.ensures.only other names)

pub returns-in-Err : goal.returns-in-Err
returns-in-Err c = none_named c.args.value.now (λ rules names. c.in-Err.ensures.only rules names)
