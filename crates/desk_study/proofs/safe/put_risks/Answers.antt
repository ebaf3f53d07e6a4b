use Rattle.std.proofs.Common.{arith}
use Rattle.riichi_study.specs.SafeReasons.{risk_reason}
use Rattle.riichi_study.proofs.SafeTextLemmas.{kind_more}
use Rattle.desk_study.proofs.safe.put_risks.Goals as goal

pub loop-number-preserved : goal.loop-number-preserved
loop-number-preserved c = record {
  bytes = kind_more (risk_reason c.args.asked.now) c.args.outbox.now.bytes.items c.loop-number.outbox.bytes.items c.put_risk.new.outbox.bytes.items c.loop-number.number c.at.result (omega arith) (cc) c.loop-number.invariant.bytes c.put_risk.ensures.bytes;
  few = omega (arith, c.put_risk.ensures.room, c.loop-number.invariant.few);
}
