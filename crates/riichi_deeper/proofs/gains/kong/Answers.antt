use Rattle.std.proofs.Common.{sym, ◌∙◌}
use Rattle.riichi_deeper.proofs.GainLemmas.{kong_none, kong_some}
use Rattle.riichi_deeper.proofs.gains.kong.Goals as goal

pub returns-in_err-after-clause-value : goal.returns-in_err-after-clause-value
returns-in_err-after-clause-value g c = c.from_residual.ensures ∙ kong_none c.args.asked.now c.args.tile (sym c.in_err-after.was ∙ c.after_call.ensures.value)

pub returns-clause-value : goal.returns-clause-value
returns-clause-value g c = kong_some c.args.asked.now c.args.tile c.in_ok-after.after c.shape_with.result (sym c.in_ok-after.was ∙ c.after_call.ensures.value) c.shape_with.ensures.shape
