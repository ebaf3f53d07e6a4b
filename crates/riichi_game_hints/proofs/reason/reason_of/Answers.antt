use Rattle.riichi_game_text.specs.Names.{names_in}
use Rattle.riichi_game_hints.proofs.reason.reason_of.Goals as goal

pub returns-in-Some-clause-holds : goal.returns-in-Some-clause-holds
returns-in-Some-clause-holds c = c.in-Some.ensures.holds (names_in c.args.names.now)

pub returns-in-None-clause-holds : goal.returns-in-None-clause-holds
returns-in-None-clause-holds c = c.reason_of_words.ensures.holds c.args.about.now.line.now
