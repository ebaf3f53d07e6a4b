use Rattle.std.proofs.Common.{arith}
use Rattle.riichi_study.specs.SafeTexts.{kind_within}
use Rattle.riichi_study.proofs.SafeTextLemmas.{kind_more}
use Rattle.riichi_study.proofs.safe_text.push_each_kind.Goals as goal

pub loop-number-preserved : goal.loop-number-preserved
loop-number-preserved c = record {
  bytes = kind_more (kind_within c.args.set) c.args.text.now.bytes c.loop-number.text.bytes c.push_within.new.text.bytes c.loop-number.number c.at.result (omega arith) (cc) c.loop-number.invariant.bytes c.push_within.ensures.bytes;
  few = omega (arith, c.push_within.ensures.len, c.loop-number.invariant.few);
}
