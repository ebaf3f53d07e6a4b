use Rattle.std.proofs.Common.{arith}
use Rattle.desk_study.proofs.FoundLemmas.{next_beaten, none_beaten}
use Rattle.desk_study.proofs.chance_objects.push_beaten.Goals as goal

pub loop-other-init : goal.loop-other-init
loop-other-init c = record { listed = none_beaten c.args.odds.now c.args.others.now c.args.text.now.bytes; few = omega arith }

pub loop-other-preserved : goal.loop-other-preserved
loop-other-preserved c =
    let so_far = c.loop-other.invariant in record {
      listed = next_beaten c.args.odds.now c.args.others.now c.loop-other.other-index c.other-item.result c.args.text.now.bytes c.loop-other.text.bytes c.push_if_beaten-later.new.text.bytes
          c.loop-other.later c.push_if_beaten-later.result c.loop-other-test.true c.other-item.is so_far.listed c.push_if_beaten-later.ensures.bytes c.push_if_beaten-later.ensures.later;
      few = omega (arith, c.push_if_beaten-later.ensures.len, so_far.few);
    }
