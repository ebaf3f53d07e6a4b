use Rattle.std.proofs.Common.{arith}
use Rattle.riichi_study.specs.SafeTexts.{risk_text}
use Rattle.riichi_study.proofs.SafeTextLemmas.{kind_more}
use Rattle.riichi_study.proofs.safe_text.push_risks.Goals as goal

pub loop-number-preserved : goal.loop-number-preserved
loop-number-preserved c = record {
  bytes = kind_more (risk_text c.args.asked.now) c.args.text.now.bytes c.loop-number.text.bytes c.push_risk.new.text.bytes c.loop-number.number c.at.result (omega arith) (cc) c.loop-number.invariant.bytes c.push_risk.ensures.bytes;
  few = omega (arith, c.push_risk.ensures.len, c.loop-number.invariant.few);
}
