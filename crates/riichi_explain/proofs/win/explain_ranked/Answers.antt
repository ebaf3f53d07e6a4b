use Rattle.std.proofs.Common.{sym, ap, ◌∙◌}
use Rattle.std.specs.Option.{option_copied}
use Rattle.riichi_explain.proofs.BestRanked.{none_ranked}
use Rattle.riichi_explain.proofs.win.explain_ranked.Goals as goal

pub returns-in-None-clause-explains : goal.returns-in-None-clause-explains
returns-in-None-clause-explains g c = record {
  none = none_ranked c.args.win.now c.args.ranked.now (sym c.first.ensures.value ∙ ap option_copied c.in-None.is) c.requires.greatest;
  distances = c.missed_win.ensures.forms;
  waits_are = c.missed_win.ensures.waits;
}
