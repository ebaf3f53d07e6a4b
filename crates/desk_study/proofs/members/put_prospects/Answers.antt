use Rattle.std.proofs.Common.{arith}
use Rattle.desk_study.specs.Objects.{prospect_json}
use Rattle.desk_study.proofs.ListedLemmas.{next_listed}
use Rattle.desk_study.proofs.members.put_prospects.Goals as goal

pub loop-prospect-preserved : goal.loop-prospect-preserved
loop-prospect-preserved c =
    let so_far = c.loop-prospect.invariant in record {
      listed = next_listed prospect_json c.args.list.now c.loop-prospect.prospect-index c.prospect-item.result c.args.outbox.now.bytes.items c.loop-prospect.outbox.bytes.items c.put_prospect-later.new.outbox.bytes.items
          c.loop-prospect.later c.put_prospect-later.result c.loop-prospect-test.true c.prospect-item.is so_far.listed c.put_prospect-later.ensures.bytes c.put_prospect-later.ensures.later;
      few = omega (arith, c.put_prospect-later.ensures.room, so_far.few);
    }
