use Rattle.std.proofs.Common.{arith}
use Rattle.desk_study.specs.Objects.{call_json}
use Rattle.desk_study.proofs.ListedLemmas.{next_listed}
use Rattle.desk_study.proofs.members.put_each.Goals as goal

pub loop-call-preserved : goal.loop-call-preserved
loop-call-preserved c =
    let so_far = c.loop-call.invariant in record {
      listed = next_listed call_json c.args.calls.now c.loop-call.call-index c.call-item.result c.args.outbox.now.bytes.items c.loop-call.outbox.bytes.items c.put_call-later.new.outbox.bytes.items
          c.loop-call.later c.put_call-later.result c.loop-call-test.true c.call-item.is so_far.listed c.put_call-later.ensures.bytes c.put_call-later.ensures.later;
      few = omega (arith, c.put_call-later.ensures.room, so_far.few);
    }
