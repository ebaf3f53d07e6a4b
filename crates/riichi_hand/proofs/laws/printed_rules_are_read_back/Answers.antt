use Rattle.riichi_hand.proofs.RulesTexts.{names_one}
use Rattle.riichi_hand.proofs.laws.printed_rules_are_read_back.Goals as goal

pub returns-clause-one : goal.returns-clause-one
returns-clause-one c = λ text rules other. names_one text rules other
