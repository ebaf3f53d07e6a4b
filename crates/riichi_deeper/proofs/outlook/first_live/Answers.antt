use Rattle.std.proofs.Common.{sym, ◌∙◌}
use Rattle.riichi_deeper.proofs.DeeperLemmas.{most_none, most_some}
use Rattle.riichi_deeper.proofs.outlook.first_live.Goals as goal

pub returns-in-Some : goal.returns-in-Some
returns-in-Some c = λ are. most_some c.args.discards.now c.in-Some.first are (sym c.in-Some.is ∙ c.short_at.ensures)

pub returns-in-None : goal.returns-in-None
returns-in-None c = λ are. most_none c.args.discards.now are (sym c.in-None.is ∙ c.short_at.ensures)
