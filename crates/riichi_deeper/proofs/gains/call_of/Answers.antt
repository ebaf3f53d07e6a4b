use Rattle.std.proofs.Common.{sym, ◌∙◌}
use Rattle.riichi_deeper.proofs.GainLemmas.{claim_none, claim_some}
use Rattle.riichi_deeper.proofs.gains.call_of.Goals as goal

pub returns-in_err-meld-clause-value : goal.returns-in_err-meld-clause-value
returns-in_err-meld-clause-value g c = c.from_residual.ensures ∙ claim_none c.args.asked.now c.args.thrown.now c.args.claim (sym c.in_err-meld.was ∙ c.meld.ensures.value)

pub returns-clause-value : goal.returns-clause-value
returns-clause-value g c = claim_some c.args.asked.now c.args.thrown.now c.args.claim c.in_ok-meld.meld c.gain_of.result (sym c.in_ok-meld.was ∙ c.meld.ensures.value) c.gain_of.ensures.value
